use Rattle.std.proofs.Common.{◌≡◌, ◌++◌, take}
use Rattle.shared_book.proofs.gather.copy_list.Given as goal

abbrev pub invariant-loop-receipt : goal.invariant-loop-receipt
invariant-loop-receipt l = l.all.items ≡ l.fn.all.items ++ take l.receipt-index l.list
