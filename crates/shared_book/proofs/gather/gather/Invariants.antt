use Rattle.std.proofs.Common.{◌≡◌, take}
use Rattle.shared_book.specs.Held.{all_lists, receipts_of}
use Rattle.shared_book.proofs.gather.gather.Given as goal

abbrev pub invariant-loop-seat : goal.invariant-loop-seat
invariant-loop-seat g l = l.all.items ≡ receipts_of (all_lists (take l.seat-index l.seats))
