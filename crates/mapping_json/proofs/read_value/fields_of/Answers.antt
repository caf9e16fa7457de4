use Rattle.std.proofs.Common.{ap, ◌∙◌}
use Rattle.json_reading.specs.Reading.{read_map}
use Rattle.mapping_json.specs.Reading.{draft_of}
use Rattle.request_json.proofs.Parts.{both_are}
use Rattle.mapping_json.proofs.read_value.fields_of.Goals as goal

pub returns-in-Wrong : goal.returns-in-Wrong
returns-in-Wrong c =
    ap (read_map draft_of)
    (c.in-Wrong.ensures ∙ both_are c.in_ok-names.ensures
    (c.both.ensures ∙ both_are c.in_ok-place.ensures c.in_ok-parts.ensures))
