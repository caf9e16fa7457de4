use Rattle.shared_book.proofs.SeatLemmas.{seat_sees}
use Rattle.shared_book.proofs.seat.Seat.read.Goals as goal

pub invariant_of-self : goal.invariant_of-self
invariant_of-self g c =
    seat_sees g.L.Origin.origin _ _ _ _ _ _ _ c.self.inside.place c.read.new.place c.self.invariant
    c.read.ensures.seen
