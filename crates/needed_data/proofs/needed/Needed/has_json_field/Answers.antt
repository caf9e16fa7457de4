use Rattle.std.proofs.Common.{◌≡◌, false, ap, sym, ◌∙◌}
use Rattle.std.specs.Prelude.{◌||◌}
use Rattle.needed_data.specs.Needed.{is_json_needed}
use Rattle.needed_data.proofs.NeededFacts.{json_needed_by_name}
use Rattle.needed_data.proofs.needed.Needed.has_json_field.Goals as goal

pub returns-else-has_json : goal.returns-else-has_json
returns-else-has_json c =
    let i = c.self.inside in
    let none : (i.everything || i.json) ≡ false =
    ap is_json_needed c.self.view_is ∙ sym c.has_json.ensures ∙ c.if-has_json.false in
    rw (← c.self.view_is)
    (json_needed_by_name i.everything i.json c.args.name.now c.as_slice.result.now i.json_names.items i.fields
    c.has_name.result none c.as_slice.ensures.value c.has_name.ensures)
