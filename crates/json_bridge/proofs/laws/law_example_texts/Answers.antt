use Rattle.json_bridge.proofs.Vectors.{are_texts}
use Rattle.json_bridge.proofs.laws.law_example_texts.Goals as goal

pub returns : goal.returns
returns c = are_texts
