use Rattle.std.proofs.Common.{◌≡◌, ◌<◌, Some, length, drop, true, sym, ap, ◌∙◌}
use Rattle.std.proofs.lemmas.Bool.{both_ways}
use Rattle.template_words.specs.declared.mode.Mode.TheVariants.{Start}
use Rattle.template_words.specs.Marks.{begins, close_from}
use Rattle.template_words.proofs.Finding.{close_at, if_some, boundary_at}
use Rattle.template_words.proofs.marks.around_close.Goals as goal

pub split_at-requires : goal.split_at-requires
split_at-requires c =
    let close = c.args.close.now in
    let text = c.args.text.now in
    let e : close_from close Start text ≡ Some c.in_ok-offset.offset =
    ap (close_from close Start) (sym c.as_bytes.ensures.value) ∙
    (ap (λ k. close_from k Start c.as_bytes.result.now) (sym c.as_bytes-2.ensures.value) ∙
    (sym c.close_offset.ensures ∙ c.in_ok-offset.was)) in
    let found =
    if_some (λ i. (i < length text) × (begins close (drop i text) ≡ true)) _ _ e (close_at close Start text) in
    boundary_at close text c.in_ok-offset.offset found c.requires.some c.requires.ascii

pub unreachable-requires : goal.unreachable-requires
unreachable-requires c =
    let close = c.args.close.now in
    let text = c.args.text.now in
    let e : close_from close Start text ≡ Some c.in_ok-offset.offset =
    ap (close_from close Start) (sym c.as_bytes.ensures.value) ∙
    (ap (λ k. close_from k Start c.as_bytes.result.now) (sym c.as_bytes-2.ensures.value) ∙
    (sym c.close_offset.ensures ∙ c.in_ok-offset.was)) in
    let found =
    if_some (λ i. (i < length text) × (begins close (drop i text) ≡ true)) _ _ e (close_at close Start text) in
    both_ways (begins close c.split_at.result.1.now) c.in-None.ensures
    (ap (begins close) c.split_at.ensures.back ∙ found.1)
