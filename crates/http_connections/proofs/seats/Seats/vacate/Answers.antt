use Rattle.http_connections.proofs.SeatLemmas.{taken_over}
use Rattle.http_connections.proofs.seats.Seats.vacate.Goals as goal

pub returns-clause-own : goal.returns-clause-own
returns-clause-own g c =
    taken_over (g.A.Answers.joins c.args.site.now) _ _ _ _ _ c.take_over.ensures.seat
