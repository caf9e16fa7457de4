use Rattle.std.proofs.Common.{ap, ◌∙◌}
use Rattle.std.proofs.lemmas.Result.{IfOk-weaker}
use Rattle.serde_json.specs.Written.{compact_text, has_float}
use Rattle.admin_json.proofs.mappings.mapping_text.Goals as goal

pub returns : goal.returns
returns c =
    let same = c.in_ok-mapping_value.ensures in
    let whole = c.law_numbers_are_whole.ensures.no_float in
    IfOk-weaker c.to_string.result _ _
    (λ text made. made (ap has_float same ∙ whole) ∙ ap compact_text same) c.to_string.ensures.text
