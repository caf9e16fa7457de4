use Rattle.world_core.proofs.ReplayedRuns.{replayed_run}
use Rattle.world_core.proofs.laws.law_replay.Goals as goal

pub returns : goal.returns
returns c = replayed_run
