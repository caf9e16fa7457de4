use Rattle.std.proofs.Common.{refl}
use Rattle.http_connections.proofs.seats.slot.is_sent_as_it_is.Goals as goal

pub returns-in-Answered : goal.returns-in-Answered
returns-in-Answered g c = λ holds.
    rw c.in-Answered.is (c.in-Answered.response, refl, c.is_as_sent.ensures holds)
