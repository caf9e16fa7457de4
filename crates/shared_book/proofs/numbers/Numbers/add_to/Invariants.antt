use Rattle.std.proofs.Common.{◌≡◌, ◌++◌, length}
use Rattle.shared_book.proofs.numbers.Numbers.add_to.Given as goal

abbrev pub invariant-loop-number : goal.invariant-loop-number
invariant-loop-number l = l.all.items ++ l.left ≡ l.fn.all.items ++ l.self

abbrev pub decreases-loop-number : goal.decreases-loop-number
decreases-loop-number l = length l.left
