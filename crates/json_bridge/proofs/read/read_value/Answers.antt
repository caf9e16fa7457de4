use Rattle.serde_json.specs.View as seen
use Rattle.json_bridge.proofs.Grown.{found_tree}
use Rattle.json_bridge.proofs.WellRead.{found_well_formed}
use Rattle.json_bridge.proofs.read.read_value.Goals as goal

pub returns-in-Some-clause-well_formed : goal.returns-in-Some-clause-well_formed
returns-in-Some-clause-well_formed c =
    found_well_formed c.args.text.now (seen.view c.in-Ok.value) c.in-Some.data c.in-Ok.ensures.ok
    (found_tree c.in_ok-data-in-Ok.field-0 c.in-Some.data _ c.in-Some.is c.in_ok-data-in-Ok.ensures)
