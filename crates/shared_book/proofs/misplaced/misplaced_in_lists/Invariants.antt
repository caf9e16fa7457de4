use Rattle.std.proofs.Common.{take, All}
use Rattle.shared_book.specs.Inner.Misplaced.{IsWellPlaced}
use Rattle.shared_book.specs.Inner.Seat.{lines_in}
use Rattle.shared_book.proofs.misplaced.misplaced_in_lists.Given as goal

abbrev pub invariant-loop-pile : goal.invariant-loop-pile
invariant-loop-pile l = All (IsWellPlaced l.last) (lines_in (take l.pile-index l.piles))
