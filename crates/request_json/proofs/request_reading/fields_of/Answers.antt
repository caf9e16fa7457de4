use Rattle.std.proofs.Common.{ap, ◌∙◌}
use Rattle.json_reading.specs.Fields.{only}
use Rattle.json_reading.specs.Reading.{read_map}
use Rattle.request_json.proofs.Parts.{both_are}
use Rattle.request_json.specs.RequestReading.{request_fields, request_with}
use Rattle.serde_json.specs.View.{view}
use Rattle.request_json.proofs.request_reading.fields_of.Goals as goal

pub returns : goal.returns
returns c =
    c.only.ensures ∙ ap (only request_fields (view c.args.value.now))
    (c.request_with.ensures ∙ ap (read_map request_with)
    (c.both-parts.ensures ∙ both_are
    (c.both-target.ensures ∙ both_are c.in_ok-text_field.ensures c.in_ok-url_of.ensures)
    (c.both-3.ensures ∙ both_are
    (c.both.ensures ∙ both_are c.in_ok-headers.ensures c.in_ok-query.ensures)
    (c.both-2.ensures ∙ both_are c.in_ok-cookies.ensures c.in_ok-body.ensures))))
