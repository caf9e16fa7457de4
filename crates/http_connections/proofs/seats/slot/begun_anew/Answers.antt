use Rattle.std.proofs.Common.{refl}
use Rattle.http_connections.proofs.seats.slot.begun_anew.Goals as goal

pub returns-in_ok-sent-in-Answered : goal.returns-in_ok-sent-in-Answered
returns-in_ok-sent-in-Answered g c =
    rw c.in-Answered.is (c.in_ok-sent-in-Answered.field-0, refl, c.in_ok-sent-in-Answered.ensures)
