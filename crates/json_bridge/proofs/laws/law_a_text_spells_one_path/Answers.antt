use Rattle.json_bridge.proofs.Unique.{one_path}
use Rattle.json_bridge.proofs.laws.law_a_text_spells_one_path.Goals as goal

pub returns : goal.returns
returns c = one_path
