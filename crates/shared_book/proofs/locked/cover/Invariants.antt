use Rattle.std.proofs.Common.{take, All}
use Rattle.shared_book.specs.Held.{HoldReceipts, lists}
use Rattle.shared_book.specs.Settled.{HaveSeen}
use Rattle.shared_book.proofs.locked.cover.Given as goal

abbrev pub invariant-loop-seat : goal.invariant-loop-seat
invariant-loop-seat g l = record {
  seen : HaveSeen l.history (take l.seat-index l.seats);
  receipts : All (λ seat. HoldReceipts g.L.Origin.origin l.history (lists seat)) (take l.seat-index l.seats);
}
