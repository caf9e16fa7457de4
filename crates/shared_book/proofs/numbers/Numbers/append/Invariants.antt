use Rattle.std.proofs.Common.{◌≡◌, ◌+◌, ◌≤◌, ◌++◌, length, vec_capacity, vec_len}
use Rattle.shared_book.specs.Inner.Numbers.{IsPacked, unpacked}
use Rattle.shared_book.proofs.numbers.Numbers.append.Given as goal

abbrev pub invariant-loop-number : goal.invariant-loop-number
invariant-loop-number l = record {
  packed : IsPacked 0 l.self-inside.steps.items l.self-inside.far.items l.self-inside.last;
  items : unpacked 0 l.self-inside.steps.items l.self-inside.far.items ++ l.left ≡ l.fn.self ++ l.other;
  steps_room : vec_len l.self-inside.steps + length l.left ≤ vec_capacity l.self-inside.steps;
  far_room : vec_len l.self-inside.far + length l.left ≤ vec_capacity l.self-inside.far;
}

abbrev pub decreases-loop-number : goal.decreases-loop-number
decreases-loop-number l = length l.left
