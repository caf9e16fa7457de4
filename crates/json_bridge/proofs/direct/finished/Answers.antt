use Rattle.std.proofs.Common.{arith}
use Rattle.json_bridge.proofs.TreeSteps.{put_all_ascending}
use Rattle.json_bridge.proofs.direct.finished.Goals as goal

pub returns-then-len-le-FEW : goal.returns-then-len-le-FEW
returns-then-len-le-FEW c = put_all_ascending c.args.found.items (c.requires (omega arith))
