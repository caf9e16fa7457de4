use Rattle.std.proofs.Common.{◌≤◌, take, All}
use Rattle.shared_book.proofs.receipt_list.first_up_to.Given as goal

abbrev pub invariant-loop-i : goal.invariant-loop-i
invariant-loop-i l = All (λ r. r.number ≤ l.last) (take l.i l.receipts)
