use Rattle.std.proofs.Common.{◌≡◌, ◌<◌, length, take, drop, sym, ap, subst, ◌∙◌, arith, IsCharBoundary}
use Rattle.std.proofs.lemmas.Bool.{eqb-false}
use Rattle.json_bridge.specs.Inner.NextStep.{name_at, after_name}
use Rattle.json_bridge.proofs.Cuts.{boundary_after_name, take_name, drop_name}
use Rattle.json_bridge.proofs.Next.{dotted_is}
use Rattle.json_bridge.proofs.next_step.dotted.Goals as goal

pub split_at-requires : goal.split_at-requires
split_at-requires c =
    subst (IsCharBoundary c.args.text.now)
    (sym (c.name_length.ensures ∙ ap (λ s. length (name_at s)) c.as_bytes.ensures.value))
    (boundary_after_name c.args.text.now c.utf8.text)

pub returns : goal.returns
returns c =
    let s = c.args.text.now in
    let n : c.name_length.result ≡ length (name_at s) =
    c.name_length.ensures ∙ ap (λ z. length (name_at z)) c.as_bytes.ensures.value in
    let front : c.split_at.result.0.now ≡ name_at s =
    c.split_at.ensures.front ∙ ap (λ k. take k s) n ∙ take_name s in
    let back : c.split_at.result.1.now ≡ after_name s =
    c.split_at.ensures.back ∙ ap (λ k. drop k s) n ∙ drop_name s in
    let some : 0 < length (name_at s) =
    omega (
      arith,
      ap length front,
      eqb-false (length c.split_at.result.0.now) 0
          (sym c.is_empty.ensures ∙ c.if-is_empty.false),
    ) in
    dotted_is s c.split_at.result.0.now c.split_at.result.1.now front back some
