use Rattle.std.proofs.Common.{◌≡◌, string_bytes, ap, ◌∙◌, rules}
use Rattle.data_tree.specs.Json.{json}
use Rattle.data_tree.specs.Tree.{view}
use Rattle.json_bridge.specs.Reading.{tree_of_text}
use Rattle.json_bridge.proofs.Back.{reads_back}
use Rattle.json_bridge.proofs.write.json_of.Goals as goal

pub returns-clause-reads_back : goal.returns-clause-reads_back
returns-clause-reads_back c formed plain shallow =
    let written : string_bytes c.json_into.new.out ≡ json (view c.args.value.now) = search rules in
    ap tree_of_text written ∙ reads_back (view c.args.value.now) formed plain shallow
