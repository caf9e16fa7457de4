use Rattle.std.proofs.Common.{List, map, take}
use Rattle.mapping_commands.specs.Checking.{HasValues}
use Rattle.mapping_commands.specs.Inner.Reports.{IsChecked}
use Rattle.serde_json.specs.Data.{Data}
use Rattle.mapping_commands.proofs.check.check_documents.Given as goal

-- the values of the first documents are reported
abbrev pub invariant-loop-index : goal.invariant-loop-index
invariant-loop-index l =
    (values : List Data) × HasValues (map (λ text. text.items) (take l.index l.documents.texts.items)) values
    × IsChecked l.fn.escape values l.checked
