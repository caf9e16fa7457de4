use Rattle.json_bridge.proofs.Found.{path_found_is_spelled}
use Rattle.json_bridge.proofs.laws.law_the_spelled_path_is_found.Goals as goal

pub returns : goal.returns
returns c = path_found_is_spelled
