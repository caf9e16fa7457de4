use Rattle.std.proofs.Common.{ap, ◌∙◌}
use Rattle.json_reading.specs.Reading.{read_then}
use Rattle.request_json.proofs.Parts.{both_are}
use Rattle.request_json.specs.BodyReading.{equal_json_with}
use Rattle.request_json.proofs.body_reading.equal_json_in.Goals as goal

pub returns : goal.returns
returns c =
    c.equal_json_of.ensures ∙ ap (read_then (λ p. equal_json_with p.0 p.1.0 p.1.1))
    (c.both-2.ensures ∙ both_are c.in_ok-expected.ensures
    (c.both.ensures ∙ both_are c.bool_field-any_order.ensures c.bool_field-more.ensures))
