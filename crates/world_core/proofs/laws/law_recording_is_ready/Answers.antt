use Rattle.world_core.proofs.ReadyPasts.{ready_after_stop, ready_when_opened}
use Rattle.world_core.proofs.laws.law_recording_is_ready.Goals as goal

pub returns-clause-stopped : goal.returns-clause-stopped
returns-clause-stopped c = ready_after_stop

pub returns-clause-opened : goal.returns-clause-opened
returns-clause-opened c = ready_when_opened
