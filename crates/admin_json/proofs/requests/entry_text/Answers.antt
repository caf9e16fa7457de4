use Rattle.std.proofs.Common.{refl, ap, ◌∙◌}
use Rattle.admin_json.specs.Requests.{json_of_entry}
use Rattle.admin_json.proofs.Regular.{plain, is_whole}
use Rattle.admin_json.proofs.RequestLemmas.{entry_regular}
use Rattle.serde_json.specs.Written.{compact_text, has_float}
use Rattle.std.proofs.lemmas.Result.{IfOk-weaker}
use Rattle.admin_json.proofs.requests.entry_text.Goals as goal

pub returns : goal.returns
returns c =
    let entry = c.args.entry.now in
    let same = c.in_ok-entry_value.ensures in
    let whole = plain is_whole (λ n is. is) (json_of_entry entry) (entry_regular is_whole entry refl) in
    IfOk-weaker c.to_string.result _ _
    (λ text made. made (ap has_float same ∙ whole) ∙ ap compact_text same) c.to_string.ensures.text
