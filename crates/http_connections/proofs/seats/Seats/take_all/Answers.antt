use Rattle.http_connections.proofs.SeatLemmas.{first_stays}
use Rattle.http_connections.proofs.seats.Seats.take_all.Goals as goal
use Rattle.http_connections.proofs.seats.Seats.take_all.Goals.{in-Some-take+in_ok-push-2, in_default-take}

pub loop-cell-preserved : goal.loop-cell-preserved
loop-cell-preserved g c = elim c.match-take-2.branch [
  | in-Some-take+in_ok-push-2 w ↦ rw w.seats-is (first_stays c.args.self.now.own c.loop-cell.seats.items _
      w.in-Some-take.seat w.in_ok-push-2.ensures.items c.loop-cell.invariant)
  | in_default-take w ↦ rw w.seats-is c.loop-cell.invariant
]
