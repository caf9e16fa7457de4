use Rattle.std.proofs.Common.{take, All}
use Rattle.needed_data.specs.Needed.{json_field_path, Covers, Includes}
use Rattle.needed_data.proofs.needed.Needed.add_json_fields.Given as goal

abbrev pub invariant-loop-name : goal.invariant-loop-name
invariant-loop-name l =
    Includes l.self l.fn.self × All (λ name. Covers l.self (json_field_path name)) (take l.name-index l.names)
