use Rattle.std.proofs.lemmas.Result.{IfOk-weaker}
use Rattle.data_tree.specs.Tree as tree
use Rattle.json_bridge.proofs.WellRead.{text_well_formed}
use Rattle.json_bridge.proofs.read.read_json.Goals as goal

pub returns-in_default-2-clause-well_formed : goal.returns-in_default-2-clause-well_formed
returns-in_default-2-clause-well_formed c =
    IfOk-weaker c.read_direct.result _ _ (λ d is. text_well_formed c.args.text.now (tree.view d) is)
    c.read_direct.ensures.value
