use Rattle.std.proofs.Common.{take, All}
use Rattle.shared_book.specs.Held.{all_lists}
use Rattle.shared_book.specs.Inner.Misplaced.{IsWellPlaced}
use Rattle.shared_book.proofs.misplaced.misplaced.Given as goal

abbrev pub invariant-loop-seat : goal.invariant-loop-seat
invariant-loop-seat g l = All (IsWellPlaced l.last) (all_lists (take l.seat-index l.seats))
