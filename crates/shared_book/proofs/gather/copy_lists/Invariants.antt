use Rattle.std.proofs.Common.{◌≡◌, ◌++◌, take}
use Rattle.shared_book.specs.Held.{receipts_of}
use Rattle.shared_book.specs.Inner.Seat.{lines_in}
use Rattle.shared_book.proofs.gather.copy_lists.Given as goal

abbrev pub invariant-loop-pile : goal.invariant-loop-pile
invariant-loop-pile l = l.all.items ≡ l.fn.all.items ++ receipts_of (lines_in (take l.pile-index l.piles))
