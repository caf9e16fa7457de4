-- The step at the front of a text is the one that the pass over the text finds. Of the bytes, 39 is `'`, 46 is `.`,
-- 91 is `[` and 93 is `]`.
use Rattle.std.proofs.Common.{◌≡◌, ℕ, ◌<◌, ◌^◌, nat_lt, List, [], ◌∷◌, ◌++◌, length, Option}
use Rattle.std.proofs.Common.{Some, None, option_map, option_and_then, Bool, true, false, cond, inl, inr, decimal, refl}
use Rattle.std.proofs.Common.{sym, ap, subst, ◌∙◌, arith, append_assoc}
use Rattle.std.proofs.lemmas.Bool.{ltb-true, lt-ltb}
use Rattle.std.specs.List.{list_all}
use Rattle.std.specs.Option.{option_map_or}
use Rattle.std.specs.Str.Parse.{digits_value}
use Rattle.data_tree.specs.declared.step.Step.{Step}
use Rattle.data_tree.specs.declared.step.Step.TheVariants.{Name, Index}
use Rattle.data_tree.specs.Digits.{is_index}
use Rattle.data_tree.proofs.Indexes.{index_below, index_decimal, decimal_digits, decimal_some, decimal_index}
use Rattle.data_tree.proofs.Indexes.{decimal_value}
use Rattle.json_bridge.specs.Inner.NextStep.{name_at, after_name, cut_at, after_byte, dotted, quoted, index_before}
use Rattle.json_bridge.specs.Inner.NextStep.{indexed, bracketed, next_step}
use Rattle.json_bridge.specs.Path.{is_step_byte, SpellsStep, SpellsSteps}
use Rattle.json_bridge.proofs.Cuts.{lacks, cut_at_own, cut_at_split, after_byte_split, some_same, none_some}
use Rattle.json_bridge.proofs.Cuts.{name_at_split, name_at_all, name_at-append, after_name-append}
use Rattle.json_bridge.proofs.Indexes.{digits_lack, no_quote_first}

abbrev Found : Type 0
Found = Option (Step × List ℕ)

same_found : (a b : Step × List ℕ) → ◌≡◌ {A = Found} (Some a) (Some b) → (a.0 ≡ b.0) × (a.1 ≡ b.1)
same_found a b e = let same = some_same a b e in (ap (λ p. p.0) same, ap (λ p. p.1) same)

-- the text begins with the step, and rest follows
abbrev pub IsAtFront : List ℕ → Step → List ℕ → Type 0
IsAtFront s step rest = (first : List ℕ) × (s ≡ first ++ rest) × SpellsStep first step × (0 < length first)

-- ---- what is found is at the front

dotted_at : (t : Bool) (x rest : List ℕ) (step : Step) → nat_lt 0 (length (name_at x)) ≡ t
    → cond {A = Found} t (Some (Name (name_at x), after_name x)) None ≡ Some (step, rest)
    → IsAtFront (46 ∷ x) step rest
dotted_at true x rest step is e =
    let p = same_found (Name (name_at x), after_name x) (step, rest) e in (
      46 ∷ name_at x,
      ap (λ y. 46 ∷ y) (name_at_split x ∙ ap (λ y. name_at x ++ y) p.1),
      subst (SpellsStep (46 ∷ name_at x)) p.0 (inl (refl, ltb-true 0 (length (name_at x)) is, name_at_all x)),
      omega arith,
    )
dotted_at false x rest step is e = absurd (none_some (step, rest) e)

closed_at : (o : Option (List ℕ)) (y name after rest : List ℕ) (step : Step)
    → (y ≡ name ++ 39 ∷ after) × (lacks 39 name ≡ true) → after_byte 93 after ≡ o
    → option_map {U = Step × List ℕ} (λ r. (Name name, r)) o ≡ Some (step, rest)
    → IsAtFront (91 ∷ 39 ∷ y) step rest
closed_at None y name after rest step cut is e = absurd (none_some (step, rest) e)
closed_at (Some r) y name after rest step cut is e =
    let p = same_found (Name name, r) (step, rest) e in
    let closed : after ≡ 93 ∷ rest = after_byte_split 93 after r is ∙ ap (λ z. 93 ∷ z) p.1 in (
      91 ∷ 39 ∷ (name ++ 39 ∷ 93 ∷ []),
      ap (λ z. 91 ∷ 39 ∷ z)
          (cut.0 ∙ ap (λ z. name ++ 39 ∷ z) closed ∙ sym (append_assoc name (39 ∷ 93 ∷ []) rest)),
      subst (SpellsStep (91 ∷ 39 ∷ (name ++ 39 ∷ 93 ∷ []))) p.0 (inr (refl, cut.1)),
      omega arith,
    )

quoted_at : (o : Option (List ℕ × List ℕ)) (y rest : List ℕ) (step : Step) → cut_at 39 y ≡ o
    → option_and_then {U = Step × List ℕ} (λ p. option_map (λ r. (Name p.0, r)) (after_byte 93 p.1)) o
    ≡ Some (step, rest) → IsAtFront (91 ∷ 39 ∷ y) step rest
quoted_at None y rest step is e = absurd (none_some (step, rest) e)
quoted_at (Some p) y rest step is e =
    closed_at (after_byte 93 p.1) y p.0 p.1 rest step (cut_at_split 39 y p.0 p.1 is) refl e

number_at : (t : Bool) (x digits after rest : List ℕ) (step : Step) → x ≡ digits ++ 93 ∷ after
    → is_index digits ≡ t
    → option_map {U = Step × List ℕ} (λ n. (Index n, after)) (cond t (Some (digits_value 10 digits)) None)
    ≡ Some (step, rest) → IsAtFront (91 ∷ x) step rest
number_at false x digits after rest step cut is e = absurd (none_some (step, rest) e)
number_at true x digits after rest step cut is e =
    let p = same_found (Index (digits_value 10 digits), after) (step, rest) e in (
      91 ∷ (digits ++ 93 ∷ []),
      ap (λ z. 91 ∷ z) (cut ∙ ap (λ z. digits ++ 93 ∷ z) p.1 ∙ sym (append_assoc digits (93 ∷ []) rest)),
      subst (SpellsStep (91 ∷ (digits ++ 93 ∷ []))) p.0
          (ap (λ z. 91 ∷ (z ++ 93 ∷ [])) (sym (index_decimal digits is)), index_below digits is),
      omega arith,
    )

indexed_at : (o : Option (List ℕ × List ℕ)) (x rest : List ℕ) (step : Step) → cut_at 93 x ≡ o
    → option_and_then index_before o ≡ Some (step, rest) → IsAtFront (91 ∷ x) step rest
indexed_at None x rest step is e = absurd (none_some (step, rest) e)
indexed_at (Some p) x rest step is e =
    number_at (is_index p.0) x p.0 p.1 rest step (cut_at_split 93 x p.0 p.1 is).0 refl e

bracketed_at : (o : Option (List ℕ)) (x rest : List ℕ) (step : Step) → after_byte 39 x ≡ o
    → option_map_or quoted o (indexed x) ≡ Some (step, rest) → IsAtFront (91 ∷ x) step rest
bracketed_at None x rest step is e = indexed_at (cut_at 93 x) x rest step refl e
bracketed_at (Some y) x rest step is e =
    let P : List ℕ → Type 0 = λ z. IsAtFront (91 ∷ z) step rest in
    subst P (sym (after_byte_split 39 x y is)) (quoted_at (cut_at 39 y) y rest step refl e)

marked_at : (o u : Option (List ℕ)) (s rest : List ℕ) (step : Step) → after_byte 46 s ≡ o
    → after_byte 91 s ≡ u
    → option_map_or dotted o (option_map_or bracketed u None) ≡ Some (step, rest) → IsAtFront s step rest
marked_at (Some x) u s rest step dot bracket e =
    let P : List ℕ → Type 0 = λ z. IsAtFront z step rest in
    subst P (sym (after_byte_split 46 s x dot)) (dotted_at (nat_lt 0 (length (name_at x))) x rest step refl e)
marked_at None (Some x) s rest step dot bracket e =
    let P : List ℕ → Type 0 = λ z. IsAtFront z step rest in
    subst P (sym (after_byte_split 91 s x bracket)) (bracketed_at (after_byte 39 x) x rest step refl e)
marked_at None None s rest step dot bracket e = absurd (none_some (step, rest) e)

pub found_at_front : (s rest : List ℕ) (step : Step) → next_step s ≡ Some (step, rest) → IsAtFront s step rest
found_at_front s rest step e = marked_at (after_byte 46 s) (after_byte 91 s) s rest step refl refl e

-- ---- what is at the front is found

-- where steps go on, no name does
stops : (steps : List Step) (s : List ℕ) → SpellsSteps s steps → name_at s ≡ []
stops [] s h = ap name_at h
stops (Name name ∷ steps) s h = elim h.3 [
  | inl d ↦ ap name_at (h.2 ∙ ap (λ x. x ++ h.1) d.0)
  | inr d ↦ ap name_at (h.2 ∙ ap (λ x. x ++ h.1) d.0)
]
stops (Index n ∷ steps) s h = ap name_at (h.2 ∙ ap (λ x. x ++ h.1) h.3.0)

dotted_found : (name rest : List ℕ) → 0 < length name → list_all is_step_byte name ≡ true
    → name_at rest ≡ [] → dotted (name ++ rest) ≡ Some (Name name, rest)
dotted_found name rest some all stop =
    rw (name_at-append name rest all stop, after_name-append name rest all stop, lt-ltb 0 (length name) some) refl

quoted_found : (name rest : List ℕ) → lacks 39 name ≡ true
    → quoted (name ++ 39 ∷ 93 ∷ rest) ≡ Some (Name name, rest)
quoted_found name rest none = rw (cut_at_own 39 name (93 ∷ rest) none) refl

index_found : (n : ℕ) (rest : List ℕ) → n < 10 ^ 9 → indexed (decimal n ++ 93 ∷ rest) ≡ Some (Index n, rest)
index_found n rest below =
    rw (
      cut_at_own 93 (decimal n) rest
          (digits_lack (decimal n) (decimal_digits n below)),
      decimal_index n below,
      decimal_value n below,
    ) refl

number_found : (n : ℕ) (rest : List ℕ) → n < 10 ^ 9
    → bracketed (decimal n ++ 93 ∷ rest) ≡ Some (Index n, rest)
number_found n rest below =
    rw (no_quote_first (decimal n) (93 ∷ rest) (decimal_digits n below) (decimal_some n below))
    (index_found n rest below)

step_found : (step : Step) (s first rest : List ℕ) → s ≡ first ++ rest → SpellsStep first step
    → name_at rest ≡ [] → next_step s ≡ Some (step, rest)
step_found (Name name) s first rest e spelled stop = elim spelled [
  | inl d ↦ ap next_step (e ∙ ap (λ x. x ++ rest) d.0) ∙ dotted_found name rest d.1 d.2 stop
  | inr d ↦ ap next_step
      (e ∙ ap (λ x. x ++ rest) d.0 ∙ ap (λ x. 91 ∷ 39 ∷ x) (append_assoc name (39 ∷ 93 ∷ []) rest))
      ∙ quoted_found name rest d.1
]
step_found (Index n) s first rest e spelled stop =
    ap next_step (e ∙ ap (λ x. x ++ rest) spelled.0
    ∙ ap (λ x. 91 ∷ x) (append_assoc (decimal n) (93 ∷ []) rest))
    ∙ number_found n rest spelled.1

pub spelled_found : (s : List ℕ) (step : Step) (steps : List Step) → SpellsSteps s (step ∷ steps)
    → (rest : List ℕ) × (next_step s ≡ Some (step, rest)) × SpellsSteps rest steps
spelled_found s step steps h = (h.1, step_found step s h.0 h.1 h.2 h.3 (stops steps h.1 h.4), h.4)

-- ---- the code's own tests

pub dotted_is : (s name rest : List ℕ) → name ≡ name_at s → rest ≡ after_name s → 0 < length (name_at s)
    → ◌≡◌ {A = Found} (Some (Name name, rest)) (dotted s)
dotted_is s name rest front back some =
    let whole : dotted s ≡ Some (Name (name_at s), after_name s) = rw (lt-ltb 0 (length (name_at s)) some) refl in
    (λ i. Some (Name (front i), back i)) ∙ sym whole
