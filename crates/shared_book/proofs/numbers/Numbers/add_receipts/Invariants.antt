use Rattle.std.proofs.Common.{◌≡◌, ◌+◌, ◌≤◌, ◌++◌, length, take, vec_capacity, vec_len}
use Rattle.shared_book.specs.Inner.Numbers.{IsPacked, unpacked}
use Rattle.shared_book.specs.Receipts.{numbers}
use Rattle.shared_book.proofs.numbers.Numbers.add_receipts.Given as goal

abbrev pub invariant-loop-receipt : goal.invariant-loop-receipt
invariant-loop-receipt l = record {
  packed : IsPacked 0 l.self-inside.steps.items l.self-inside.far.items l.self-inside.last;
  items : unpacked 0 l.self-inside.steps.items l.self-inside.far.items
      ≡ l.fn.self ++ numbers (take l.receipt-index l.receipts);
  steps_room : vec_len l.self-inside.steps + length l.receipts
      ≤ vec_capacity l.self-inside.steps + l.receipt-index;
  far_room : vec_len l.self-inside.far + length l.receipts ≤ vec_capacity l.self-inside.far + l.receipt-index;
}
