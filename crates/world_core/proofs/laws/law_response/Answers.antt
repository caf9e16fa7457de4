use Rattle.world_core.proofs.AnsweredRuns.{answered_run}
use Rattle.world_core.proofs.SilentRuns.{silent_run}
use Rattle.world_core.proofs.laws.law_response.Goals as goal

pub returns-clause-given : goal.returns-clause-given
returns-clause-given c = answered_run

pub returns-clause-silent : goal.returns-clause-silent
returns-clause-silent c = silent_run
