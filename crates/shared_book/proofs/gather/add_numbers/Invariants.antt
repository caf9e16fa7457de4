use Rattle.std.proofs.Common.{◌≡◌, ◌+◌, ◌≤◌, ◌++◌, length, take, vec_capacity, vec_len}
use Rattle.shared_book.specs.Receipts.{numbers}
use Rattle.shared_book.proofs.gather.add_numbers.Given as goal

abbrev pub invariant-loop-receipt : goal.invariant-loop-receipt
invariant-loop-receipt l = record {
  items : l.all.items ≡ l.fn.all.items ++ numbers (take l.receipt-index l.receipts);
  room : vec_len l.all + length l.receipts ≤ vec_capacity l.all + l.receipt-index;
}
