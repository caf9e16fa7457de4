use Rattle.std.proofs.Common.{◌≡◌, All, subst, ap, ◌∙◌, rules}
use Rattle.needed_data.specs.Needed.{json_field_path, Covers}
use Rattle.needed_data.proofs.NeededFacts.{includes_kept}
use Rattle.needed_data.proofs.needed.Needed.add_kept.Goals as goal

pub returns-clause-kept : goal.returns-clause-kept
returns-clause-kept c =
    let new = c.add_json_fields.new.self in
    let same : c.as_slice.result.now ≡ c.kept.inside.json_names.items = search rules in
    includes_kept c.add_kept_parts.new.self new c.args.kept.now c.add_kept_parts.ensures.parts
    c.add_json_fields.ensures.more
    (subst (All (λ name. Covers new (json_field_path name)))
    (same ∙ ap (λ kept. kept.json_names) c.kept.view_is) c.add_json_fields.ensures.fields)
