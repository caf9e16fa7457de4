use Rattle.world_core.proofs.SharedReplays.{replayed_log}
use Rattle.world_core.proofs.laws.law_shared_replays.Goals as goal

pub returns : goal.returns
returns c = replayed_log
