use Rattle.std.proofs.Common.{ℕ, ◌≤◌, All, Contains, length}
use Rattle.shared_book.proofs.misplaced.above.Given as goal

abbrev pub invariant-loop-number : goal.invariant-loop-number
invariant-loop-number l = record {
  all : All (λ n. n ≤ l.last) l.left → All (λ n. n ≤ l.last) l.numbers;
  contains : (n : ℕ) → Contains l.left n → Contains l.numbers n;
}

abbrev pub decreases-loop-number : goal.decreases-loop-number
decreases-loop-number l = length l.left
