use Rattle.std.proofs.Common.{refl}
use Rattle.hyper_service.proofs.serving.events.Goals as goal

pub returns-in-Ok : goal.returns-in-Ok
returns-in-Ok g c = (c.in-Ok.settled, c.in-Ok.ensures.settled, refl)

pub returns-in-Err : goal.returns-in-Err
returns-in-Err g c = c.in-Err.ensures.why
