use Rattle.std.proofs.Common.{◌++◌, length, drop}
use Rattle.shared_book.proofs.FallLemmas.{IsWalked}
use Rattle.shared_book.specs.Receipts.{numbers}
use Rattle.shared_book.specs.Inner.Seat.{line_of}
use Rattle.shared_book.proofs.misplaced.fall.Given as goal

abbrev pub invariant-loop-number : goal.invariant-loop-number
invariant-loop-number l = IsWalked (line_of l.list) l.before (l.left ++ numbers l.list.held.items)

abbrev pub decreases-loop-number : goal.decreases-loop-number
decreases-loop-number l = length l.left

abbrev pub invariant-loop-receipt : goal.invariant-loop-receipt
invariant-loop-receipt l = IsWalked (line_of l.list) l.before (numbers (drop l.receipt-index l.list.held.items))
