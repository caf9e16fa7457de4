use Rattle.std.proofs.Common.{ap, ◌∙◌}
use Rattle.admin_json.specs.Start.{start_fields, start_with}
use Rattle.json_reading.specs.Fields.{only}
use Rattle.json_reading.specs.Reading.{both, read_map, needed}
use Rattle.serde_json.specs.View.{view}
use Rattle.admin_json.proofs.start.reading_of_start.Goals as goal

pub returns : goal.returns
returns c =
    let target = c.needed-target.ensures ∙ ap needed c.in_ok-text_field.ensures in
    let rest = c.both-rest.ensures ∙ (λ i. both (c.in_ok-captured_in.ensures i) (c.repeats_in.ensures i)) in
    c.only.ensures ∙ ap (only start_fields (view c.args.value.now))
    (c.start_with.ensures ∙ ap (read_map start_with) (c.both.ensures ∙ (λ i. both (target i) (rest i))))
