use Rattle.std.proofs.Common.{map, subst, sym, rules}
use Rattle.data_tree.specs.Tree as tree
use Rattle.data_tree.specs.WellFormed.{IsWellFormed}
use Rattle.json_bridge.proofs.KeptSteps.{part_well_formed}
use Rattle.json_bridge.proofs.WellRead.{text_well_formed}
use Rattle.json_bridge.proofs.part.part_of_json.Goals as goal

pub returns-in-Ok-clause-well_formed : goal.returns-in-Ok-clause-well_formed
returns-in-Ok-clause-well_formed c =
    let names = map (λ name. name.now) c.args.names.now in
    let found = c.in-Ok.ensures.value in
    subst IsWellFormed (sym found.2)
    (part_well_formed names found.0 (text_well_formed c.args.text.now found.0 found.1))

pub returns-in_ok-part_of-in-Some-clause-well_formed :
    goal.returns-in_ok-part_of-in-Some-clause-well_formed
returns-in_ok-part_of-in-Some-clause-well_formed c =
    let names = map (λ name. name.now) c.args.names.now in
    let formed : IsWellFormed (tree.view c.in-Some.data) = search rules in
    subst IsWellFormed (sym c.in_ok-part_of-in-Some.ensures)
    (part_well_formed names (tree.view c.in-Some.data) formed)
