use Rattle.world_core.proofs.SharedRuns.{right_after}
use Rattle.world_core.proofs.laws.law_shared_is_right.Goals as goal

pub returns : goal.returns
returns c = right_after
