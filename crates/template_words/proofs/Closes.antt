-- The first mark, and the first close outside of literals, by splits of the text.
use Rattle.std.proofs.Common.{◌≡◌, ℕ, zero, suc, ◌+◌, ◌<◌, ◌≤◌, ◌↔◌, inl, inr, true, false}
use Rattle.std.proofs.Common.{◌&&◌, not, List, [], ◌∷◌, ◌++◌, length, take, drop, Option, Some, None}
use Rattle.std.proofs.Common.{IfSome, option_map, refl, sym, ap, subst, ◌∙◌, arith, length-append}
use Rattle.std.proofs.lemmas.Bool.{and_parts, and_from, not-true, cond_both, cases_Bool, cases_lt, both_ways}
use Rattle.std.proofs.lemmas.List.{take-append-drop, drop-drop, take_at, drop_at, length-take-le}
use Rattle.template_words.specs.declared.mode.Mode.{Mode}
use Rattle.template_words.specs.declared.mode.Mode.TheVariants.{Start}
use Rattle.template_words.specs.Shown.Laws.{IsFirstMark, IsFirstClose}
use Rattle.template_words.specs.Marks.{begins, offset_of, around, close_from}
use Rattle.template_words.specs.Modes.{mode_after, mode_after_bytes, is_literal}
use Rattle.template_words.proofs.Finding.{begins_own, begins_split, some_pair, some_suc}

-- a close at n is the first outside of literals
record Closes (close : List ℕ) (mode : Mode) (s : List ℕ) (n : ℕ) : Type 0 where
  inside : n < length s
  here : begins close (drop n s) ≡ true
  outside : is_literal (mode_after_bytes mode (take n s)) ≡ false
  first : (k : ℕ) → k < n → begins close (drop k s) ≡ true
      → is_literal (mode_after_bytes mode (take k s)) ≡ true

closes_now : (close : List ℕ) (mode : Mode) (b : ℕ) (s : List ℕ)
    → (not (is_literal mode) && begins close (b ∷ s)) ≡ true → Closes close mode (b ∷ s) 0
closes_now close mode b s t =
    let p = and_parts (not (is_literal mode)) (begins close (b ∷ s)) t in
    record {
      inside = omega arith;
      here = p.1;
      outside = not-true (is_literal mode) p.0;
      first = λ k lt h. absurd
          (omega arith);
    }

closes_later : (close : List ℕ) (mode : Mode) (b : ℕ) (s : List ℕ) (n : ℕ)
    → (not (is_literal mode) && begins close (b ∷ s)) ≡ false → Closes close (mode_after mode b) s n
    → Closes close mode (b ∷ s) (suc n)
closes_later close mode b s n f c = record {
  inside = omega (arith, c.inside);
  here = c.here;
  outside = c.outside;
  first = earlier;
}
  where
    earlier : (k : ℕ) → k < suc n → begins close (drop k (b ∷ s)) ≡ true
        → is_literal (mode_after_bytes mode (take k (b ∷ s))) ≡ true
    earlier zero lt h = elim (cases_Bool (is_literal mode)) [
      | inl t ↦ t
      | inr g ↦ absurd
          (both_ways (not (is_literal mode) && begins close (b ∷ s)) f
          (and_from (not (is_literal mode)) (begins close (b ∷ s)) (ap not g) h))
    ]
    earlier (suc k) lt h = c.first k (omega arith) h

closes : (close : List ℕ) (mode : Mode) (s : List ℕ) → IfSome (close_from close mode s) (Closes close mode s)
closes close mode [] = tt
closes close mode (b ∷ s) =
    cond_both (not (is_literal mode) && begins close (b ∷ s)) (Some 0)
    (option_map suc (close_from close (mode_after mode b) s)) (λ o. IfSome o (Closes close mode (b ∷ s)))
    (λ t. closes_now close mode b s t)
    (λ f. some_suc (Closes close (mode_after mode b) s) (Closes close mode (b ∷ s))
    (close_from close (mode_after mode b) s) (λ n c. closes_later close mode b s n f c)
    (closes close (mode_after mode b) s))

found : (close : List ℕ) (mode : Mode) (s : List ℕ) (n : ℕ) → Closes close mode s n
    → close_from close mode s ≡ Some n
found close mode [] n c = absurd (omega (arith, c.inside))
found close mode (b ∷ s) zero c =
    let t : (not (is_literal mode) && begins close (b ∷ s)) ≡ true =
    and_from (not (is_literal mode)) (begins close (b ∷ s)) (ap not c.outside) c.here in
    rw t refl
found close mode (b ∷ s) (suc n) c =
    let f : (not (is_literal mode) && begins close (b ∷ s)) ≡ false = no_close in
    let ih : close_from close (mode_after mode b) s ≡ Some n = found close (mode_after mode b) s n (record {
      inside = omega (arith, c.inside);
      here = c.here;
      outside = c.outside;
      first = λ k lt h. c.first (suc k) (omega arith) h;
    }) in
    rw f (rw ih refl)
  where
    no_close : (not (is_literal mode) && begins close (b ∷ s)) ≡ false
    no_close = elim (cases_Bool (not (is_literal mode) && begins close (b ∷ s))) [
      | inl t ↦
          let p = and_parts (not (is_literal mode)) (begins close (b ∷ s)) t in
          absurd (both_ways (is_literal mode) (not-true (is_literal mode) p.0) (c.first 0 (omega arith) p.1))
      | inr f ↦ f
    ]

-- where a mark mark_after after front, the text from there on begins with it
mark_after : (mark text a b : List ℕ) → text ≡ a ++ (mark ++ b)
    → (begins mark (drop (length a) text) ≡ true) × (take (length a) text ≡ a)
mark_after mark text a b e = (
  ap (begins mark) (ap (drop (length a)) e ∙ drop_at a (mark ++ b) (length a) refl) ∙ begins_own mark b,
  ap
      (take (length a)) e ∙ take_at a (mark ++ b) (length a) refl,
)

split_at : (mark text : List ℕ) (n : ℕ) → begins mark (drop n text) ≡ true
    → text ≡ take n text ++ (mark ++ drop (n + length mark) text)
split_at mark text n h =
    let back : drop n text ≡ mark ++ drop (length mark) (drop n text) = begins_split mark (drop n text) h in
    let far : drop (length mark) (drop n text) ≡ drop (n + length mark) text = drop-drop (length mark) n text in
    sym (take-append-drop n text) ∙ ap (λ x. take n text ++ x) (back ∙ ap (λ x. mark ++ x) far)

rest_of : (mark text before after : List ℕ) → text ≡ before ++ (mark ++ after)
    → drop (length before + length mark) text ≡ after
rest_of mark text before after e =
    sym (drop-drop (length mark) (length before) text) ∙
    (ap (drop (length mark)) (ap (drop (length before)) e ∙ drop_at before (mark ++ after) (length before) refl)
    ∙ drop_at mark after (length mark) refl)

some_differs : (x : List ℕ × List ℕ) → ◌≡◌ {A = Option (List ℕ × List ℕ)} None (Some x) → ⊥
some_differs x e = cc

closed_parts : (close text content rest : List ℕ) (o : Option ℕ) → IfSome o (Closes close Start text)
    → around close text o ≡ Some (content, rest) → IsFirstClose close text content rest
closed_parts close text content rest None c e = absurd (some_differs (content, rest) e)
closed_parts close text content rest (Some n) c e =
    let p = some_pair (take n text) (drop (n + length close) text) content rest e in
    let P : List ℕ → Type 0 = λ x. is_literal (mode_after_bytes Start x) ≡ false in
    let long : length content ≡ n = ap length (sym p.0) ∙ length-take-le n text (omega (arith, c.inside)) in
    record {
      split =
          split_at close text n c.here ∙
          (ap (λ x. x ++ (close ++ drop (n + length close) text)) p.0 ∙ ap (λ x. content ++ (close ++ x)) p.1);
      outside = subst P p.0 c.outside;
      first = λ a b s lt.
          let at = mark_after close text a b s in
          let Q : List ℕ → Type 0 = λ x. is_literal (mode_after_bytes Start x) ≡ true in
          subst Q at.1 (c.first (length a) (omega (arith, lt, long)) at.0);
    }

closes_from_parts : (close text content rest : List ℕ) → 0 < length close → IsFirstClose close text content rest
    → Closes close Start text (length content)
closes_from_parts close text content rest some f =
    let at = mark_after close text content rest f.split in
    let P : List ℕ → Type 0 = λ x. is_literal (mode_after_bytes Start x) ≡ false in
    record {
      inside = omega (arith, some, ap length f.split, length-append content (close ++ rest), length-append close rest);
      here = at.0;
      outside = subst P (sym at.1) f.outside;
      first = λ k lt h.
          let within : k ≤ length text =
          omega (arith, lt, ap length f.split, length-append content (close ++ rest)) in
          f.first (take k text) (drop (k + length close) text) (split_at close text k h)
          (omega (arith, lt, length-take-le k text within));
    }

pub first_close : (close text content rest : List ℕ) → 0 < length close
    → (around close text (close_from close Start text) ≡ Some (content, rest))
    ↔ IsFirstClose close text content rest
first_close close text content rest some = (
  closed_parts close text content rest (close_from close Start text) (closes close Start text),
  λ f.
      let at = mark_after close text content rest f.split in
      let e : close_from close Start text ≡ Some (length content) =
      found close Start text (length content) (closes_from_parts close text content rest some f) in
      rw e (ap (λ x. Some (x, drop (length content + length close) text)) at.1 ∙ ap (λ x. Some (content, x))
      (rest_of close text content rest f.split)),
)

-- a mark at n is the first
pub record Marks (mark s : List ℕ) (n : ℕ) : Type 0 where
  pub inside : n < length s
  pub here : begins mark (drop n s) ≡ true
  pub first : (k : ℕ) → k < n → begins mark (drop k s) ≡ false

marks_later : (mark : List ℕ) (b : ℕ) (s : List ℕ) (n : ℕ) → begins mark (b ∷ s) ≡ false
    → Marks mark s n → Marks mark (b ∷ s) (suc n)
marks_later mark b s n f c = record { inside = omega (arith, c.inside); here = c.here; first = earlier }
  where
    earlier : (k : ℕ) → k < suc n → begins mark (drop k (b ∷ s)) ≡ false
    earlier zero lt = f
    earlier (suc k) lt = c.first k (omega arith)

pub marks : (mark s : List ℕ) → IfSome (offset_of mark s) (Marks mark s)
marks mark [] = tt
marks mark (b ∷ s) =
    cond_both (begins mark (b ∷ s)) (Some 0) (option_map suc (offset_of mark s))
    (λ o. IfSome o (Marks mark (b ∷ s)))
    (λ t. record { inside = omega arith; here = t; first = λ k lt. absurd (omega arith) })
    (λ f. some_suc (Marks mark s) (Marks mark (b ∷ s)) (offset_of mark s) (λ n c. marks_later mark b s n f c)
    (marks mark s))

marked : (mark s : List ℕ) (n : ℕ) → Marks mark s n → offset_of mark s ≡ Some n
marked mark [] n c = absurd (omega (arith, c.inside))
marked mark (b ∷ s) zero c = let t : begins mark (b ∷ s) ≡ true = c.here in rw t refl
marked mark (b ∷ s) (suc n) c =
    let f : begins mark (b ∷ s) ≡ false = c.first 0 (omega arith) in
    let ih : offset_of mark s ≡ Some n =
    marked mark s n
    (record {
      inside = omega (arith, c.inside);
      here = c.here;
      first = λ k lt. c.first (suc k)
          (omega arith);
    }) in
    rw f (rw ih refl)

marked_parts : (mark text before after : List ℕ) (o : Option ℕ) → IfSome o (Marks mark text)
    → around mark text o ≡ Some (before, after) → IsFirstMark mark text before after
marked_parts mark text before after None c e = absurd (some_differs (before, after) e)
marked_parts mark text before after (Some n) c e =
    let p = some_pair (take n text) (drop (n + length mark) text) before after e in
    let long : length before ≡ n = ap length (sym p.0) ∙ length-take-le n text (omega (arith, c.inside)) in
    record {
      split =
          split_at mark text n c.here ∙
          (ap (λ x. x ++ (mark ++ drop (n + length mark) text)) p.0 ∙ ap (λ x. before ++ (mark ++ x)) p.1);
      first = λ a b s. not_before a b s long;
    }
  where
    not_before : (a b : List ℕ) → text ≡ a ++ (mark ++ b) → length before ≡ n → length before ≤ length a
    not_before a b s long = elim (cases_lt (length a) n) [
      | inl lt ↦ absurd
          (both_ways (begins mark (drop (length a) text)) (c.first (length a) lt) (mark_after mark text a b s).0)
      | inr ge ↦ omega (arith, ge, long)
    ]

marks_from_parts : (mark text before after : List ℕ) → 0 < length mark → IsFirstMark mark text before after
    → Marks mark text (length before)
marks_from_parts mark text before after some f = record {
  inside = omega (arith, some, ap length f.split, length-append before (mark ++ after), length-append mark after);
  here = (mark_after mark text before after f.split).0;
  first = none;
}
  where
    none : (k : ℕ) → k < length before → begins mark (drop k text) ≡ false
    none k lt = elim (cases_Bool (begins mark (drop k text))) [
      | inl t ↦
          let within : k ≤ length text = omega (arith, lt, ap length f.split, length-append before (mark ++ after)) in
          absurd (omega (
            arith,
            lt,
            length-take-le k text within,
            f.first (take k text)
                (drop (k + length mark) text) (split_at mark text k t),
          ))
      | inr g ↦ g
    ]

pub first_mark : (mark text before after : List ℕ) → 0 < length mark
    → (around mark text (offset_of mark text) ≡ Some (before, after)) ↔ IsFirstMark mark text before after
first_mark mark text before after some = (
  marked_parts mark text before after (offset_of mark text) (marks mark text),
  λ f.
      let at = mark_after mark text before after f.split in
      let e : offset_of mark text ≡ Some (length before) =
      marked mark text (length before) (marks_from_parts mark text before after some f) in
      rw e (ap (λ x. Some (x, drop (length before + length mark) text)) at.1 ∙ ap (λ x. Some (before, x))
      (rest_of mark text before after f.split)),
)
