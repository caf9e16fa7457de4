use Rattle.std.proofs.Common.{◌≡◌, take}
use Rattle.shared_book.specs.Held.{all_lists, all_numbers}
use Rattle.shared_book.proofs.gather.gather_numbers.Given as goal

abbrev pub invariant-loop-seat : goal.invariant-loop-seat
invariant-loop-seat g l = l.all.items ≡ all_numbers (all_lists (take l.seat-index l.seats))
