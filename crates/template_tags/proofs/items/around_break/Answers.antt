use Rattle.std.proofs.Common.{◌≡◌, ℕ, suc, ◌+◌, ◌<◌, List, length, take, drop, get_or, Option, Some}
use Rattle.std.proofs.Common.{IfSome, sym, ap, subst, ◌∙◌, arith, IsCharBoundary}
use Rattle.std.proofs.lemmas.List.{get_or-drop, drop-drop, length-drop}
use Rattle.std.proofs.lemmas.Str.{IsCharBoundary-before_ascii}
use Rattle.template_tags.specs.Inner.Scan.{break_at, split_around}
use Rattle.template_tags.proofs.Cuts.{break_found, after_ascii}
use Rattle.template_words.specs.declared.mode.Mode.{Mode}
use Rattle.template_tags.proofs.items.around_break.Goals as goal

found : (mode : Mode) (s bytes : List ℕ) (n : ℕ) → Some n ≡ break_at mode bytes → bytes ≡ s
    → (n < length s) × (get_or s n 0 < 128)
found mode s bytes n at same =
    let P : Option ℕ → Type 0 = λ o. IfSome o (λ k. (k < length s) × (get_or s k 0 < 128)) in
    subst P (sym (at ∙ ap (break_at mode) same)) (break_found mode s)

parts : (mode : Mode) (s bytes front back more after : List ℕ) (n : ℕ)
    → Some n ≡ break_at mode bytes → bytes ≡ s
    → front ≡ take n s → back ≡ drop n s → more ≡ back → after ≡ drop 1 back
    → Some (front, get_or more 0 0, after) ≡ split_around s (break_at mode s)
parts mode s bytes front back more after n at same is_front is_back is_more is_after =
    let same_place : n + 0 ≡ n = omega arith in
    let byte : get_or more 0 0 ≡ get_or s n 0 =
    ap (λ b. get_or b 0 0) (is_more ∙ is_back) ∙ get_or-drop n s 0 0 ∙ ap (λ k. get_or s k 0) same_place in
    let next : n + 1 ≡ suc n = omega arith in
    let rest : after ≡ drop (suc n) s =
    is_after ∙ ap (drop 1) is_back ∙ drop-drop 1 n s ∙ ap (λ k. drop k s) next in
    (λ i. Some (is_front i, byte i, rest i)) ∙ ap (split_around s) (at ∙ ap (break_at mode) same)

pub split_at-requires : goal.split_at-requires
split_at-requires c =
    let f = found c.args.mode c.args.text.now c.as_bytes.result.now c.in_ok-offset.offset c.in_ok-offset.ensures
    c.as_bytes.ensures.value in
    IsCharBoundary-before_ascii c.args.text.now c.in_ok-offset.offset f.0 f.1

pub bounds-as_bytes-0 : goal.bounds-as_bytes-0
bounds-as_bytes-0 c =
    let f = found c.args.mode c.args.text.now c.as_bytes.result.now c.in_ok-offset.offset c.in_ok-offset.ensures
    c.as_bytes.ensures.value in
    omega (
      arith,
      f.0,
      ap length c.as_bytes-2.ensures.value,
      ap length c.split_at.ensures.back,
      length-drop c.in_ok-offset.offset c.args.text.now,
    )

pub split_at-requires-2 : goal.split_at-requires-2
split_at-requires-2 c =
    let f = found c.args.mode c.args.text.now c.as_bytes.result.now c.in_ok-offset.offset c.in_ok-offset.ensures
    c.as_bytes.ensures.value in
    let P : List ℕ → Type 0 = λ bs. IsCharBoundary bs 1 in
    subst P (sym c.split_at.ensures.back) (after_ascii c.args.text.now c.in_ok-offset.offset c.utf8.text f.0 f.1)

pub returns : goal.returns
returns c =
    let f = found c.args.mode c.args.text.now c.as_bytes.result.now c.in_ok-offset.offset c.in_ok-offset.ensures
    c.as_bytes.ensures.value in
    record {
      value = parts c.args.mode c.args.text.now c.as_bytes.result.now c.split_at.result.0.now c.split_at.result.1.now
          c.as_bytes-2.result.now c.split_at-2.result.1.now c.in_ok-offset.offset c.in_ok-offset.ensures
          c.as_bytes.ensures.value c.split_at.ensures.front c.split_at.ensures.back c.as_bytes-2.ensures.value
          c.split_at-2.ensures.back;
      word = omega (arith, c.split_at.ensures.front_len, f.0);
      rest = omega (
        arith,
        f.0,
        ap length c.split_at-2.ensures.back,
        length-drop 1 c.split_at.result.1.now,
        ap length c.split_at.ensures.back,
        length-drop c.in_ok-offset.offset c.args.text.now,
      );
    }
