use Rattle.std.proofs.Common.{◌<◌, subst, sym}
use Rattle.shared_book.proofs.SeatLemmas.{seat_split}
use Rattle.shared_book.specs.Held.{Held}
use Rattle.shared_book.proofs.seat.Seat.split.Goals as goal

pub invariant_of-self : goal.invariant_of-self
invariant_of-self g c =
    seat_split g.L.Origin.origin c.self.inside.place c.split-place.new.place c.split-place.result _ _ _ _ _ _ _ _ _
    c.self.invariant c.split-place.ensures (subst (λ (s : Held). 1 < s.parts) (sym c.self.view_is) c.requires)
    c.split_off-share.ensures.parts_left c.split_off-share.ensures.amount_left
