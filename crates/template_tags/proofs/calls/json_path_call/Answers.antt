use Rattle.std.proofs.Common.{◌≡◌, ◌≤◌, false, List, [], ◌∷◌, length, get_or, map, Result, IfOk, sym}
use Rattle.std.proofs.Common.{ap, subst, ◌∙◌, arith}
use Rattle.template_words.specs.declared.error.TagError.{TagError}
use Rattle.template_tags.specs.Inner.CallReads.{literal_in, body_call, json_path_call}
use Rattle.template_tags.specs.Expression as spelled
use Rattle.template_tags.specs.Inner.Views.{read_view}
use Rattle.template_tags.specs.declared.expression.Expression.{Expression}
use Rattle.template_tags.proofs.calls.json_path_call.Goals as goal

long_call : (reads : List (Result Expression TagError)) (b : Result Expression TagError) → 3 ≤ length reads
    → b ≡ get_or reads 1 b → json_path_call (map read_view reads) ≡ body_call false (literal_in (read_view b))
long_call [] b long is = absurd (omega (arith, long))
long_call (x ∷ []) b long is = absurd (omega (arith, long))
long_call (x ∷ y ∷ []) b long is = absurd (omega (arith, long))
long_call (x ∷ y ∷ z ∷ reads) b long is = ap (λ r. body_call false (literal_in (read_view r))) (sym is)

pub returns-in-len2-up : goal.returns-in-len2-up
returns-in-len2-up c =
    let P : Result spelled.Expression TagError → Type 0 =
    λ x. IfOk c.body_call-in-len2-up.result (λ read. read_view read ≡ x) in
    subst P (ap (body_call false) c.literal_in-in-len2-up.ensures
    ∙ sym (long_call c.args.arguments.now c.second-item-2.result c.in-len2-up.len_at_least c.second-item-2.is))
    c.body_call-in-len2-up.ensures
