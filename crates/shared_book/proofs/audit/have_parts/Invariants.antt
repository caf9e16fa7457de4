use Rattle.std.proofs.Common.{◌≡◌, ◌+◌, take}
use Rattle.shared_book.specs.Held.{all_parts}
use Rattle.shared_book.proofs.audit.have_parts.Given as goal

abbrev pub invariant-loop-seat : goal.invariant-loop-seat
invariant-loop-seat g l = l.left + all_parts (take l.seat-index l.seats) ≡ l.all
