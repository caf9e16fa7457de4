use Rattle.json_bridge.proofs.Vectors.{are_paths}
use Rattle.json_bridge.proofs.laws.law_example_paths.Goals as goal

pub returns : goal.returns
returns c = are_paths
