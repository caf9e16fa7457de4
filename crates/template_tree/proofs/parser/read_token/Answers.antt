use Rattle.std.proofs.Common.{◌≡◌, ◌<◌, ◌==◌, true, false, Some, codes, length, drop, reverse, sym, ap, ◌∙◌}
use Rattle.std.specs.List.{ends_with}
use Rattle.std.proofs.lemmas.Str.Pattern.{ends_text}
use Rattle.template_words.specs.Marks.{begins, offset_of}
use Rattle.template_tree.specs.Tokens.{token, text_next}
use Rattle.template_words.proofs.Finding.{offset_at, if_some}
use Rattle.template_tree.proofs.Rows.{next_text, text_plain}
use Rattle.template_tree.proofs.parser.read_token.Goals as goal

pub error_after_backslash-requires : goal.error_after_backslash-requires
error_after_backslash-requires c =
    let s = c.args.rest.now in
    let e : offset_of (codes "{{") s ≡ Some c.in-Some.offset = sym c.in-Some.ensures.value in
    let found =
    if_some (λ i. (i < length s) × (begins (codes "{{") (drop i s) ≡ true))
    (offset_of (codes "{{") s) c.in-Some.offset e (offset_at (codes "{{") s) in
    ap (begins (codes "{{")) c.split_at.ensures.back ∙ found.1

pub returns-in_ok-text_token-in-Some : goal.returns-in_ok-text_token-in-Some
returns-in_ok-text_token-in-Some c =
    let s = c.args.rest.now in
    let levels = reverse c.args.levels.now in
    let front = c.split_at.result.0.now in
    let mark = c.split_at.result.1.now in
    let f : ends_with ◌==◌ front (codes "\\") ≡ false =
    sym (ends_text c.ends_with.result (codes "\\") front c.ends_with.ensures.cases) ∙ c.if-ends_with.false in
    next_text levels s c.in-Some.offset (sym c.in-Some.ensures.value) c.in-Some.offset-test.1
    ∙ (ap (λ x. text_next x (drop c.in-Some.offset s)) (sym c.split_at.ensures.front)
    ∙ (ap (text_next front) (sym c.split_at.ensures.back)
    ∙ (text_plain front mark f ∙ ap (λ t. token t mark) (sym c.in_ok-text_token-in-Some.ensures))))
