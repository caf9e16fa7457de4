use Rattle.std.proofs.Common.{ap, ◌∙◌, ◌∷◌, codes}
use Rattle.json_reading.specs.Fields.{only}
use Rattle.json_reading.specs.Reading.{read_map, needed}
use Rattle.mapping_model.specs.declared.body_pattern.BodyPattern.TheVariants.{JsonPath}
use Rattle.request_json.proofs.Parts.{both_are}
use Rattle.request_json.specs.ValueReading.{value_words}
use Rattle.serde_json.specs.View.{view}
use Rattle.request_json.proofs.body_reading.path_object_of.Goals as goal

pub returns : goal.returns
returns c =
    c.only.ensures ∙ ap (only (codes "expression" ∷ value_words) (view c.args.value.now))
    (c.path_with-part.ensures ∙ ap (read_map (λ p. JsonPath p.0 p.1))
    (both_are (c.needed-expression.ensures ∙ ap needed c.in_ok-text_field.ensures)
    (c.needed.ensures ∙ ap needed c.in_ok-value_in.ensures)))
