-- Bounds and costs with a coefficient that is too large, and the bounds of slots.
use Rattle.std.proofs.Common.{◌≡◌, ℕ, zero, suc, ◌<◌, Bool, true, false, List, [], ◌∷◌, take, drop}
use Rattle.std.proofs.Common.{map, Some, None, refl, sym, ◌∙◌, ⊎_elim}
use Rattle.std.specs.Prelude.{◌&&◌, if◌then◌else◌}
use Rattle.std.specs.List.{list_all}
use Rattle.std.proofs.lemmas.Bool.{and_cases, and_left, and_right}
use Rattle.std.proofs.lemmas.Option.{none-some, same_Some}
use Rattle.template_code.specs.Code.{StackCode}
use Rattle.template_code.specs.Instructions.{pushes}
use Rattle.template_code.specs.declared.instr.Instr.{Instr}
use Rattle.template_code.specs.declared.instr.Instr.TheVariants.{Item, Text, Show, Call, Escape}
use Rattle.code_rules.specs.Bounds.{Bound, at_most, plus_bound, times_bound, sum_of, bound_fits}
use Rattle.code_rules.specs.Costs.{top, pushed_bounds, Cost, plus_cost, cost_fits}
use Rattle.code_rules.proofs.PolynomialFacts.{plus-empty}
use Rattle.code_verifier.specs.Inner.Limited.{bound_within, cost_within}
use Rattle.code_verifier.specs.Inner.Slots.{bounds_of, bound_each}
use Rattle.code_verifier.specs.declared.stack.Slot.{Slot}
use Rattle.code_verifier.proofs.GrowthFacts.{over-left, over-right, over-times}

bound-left : (b c : Bound) → bound_fits b ≡ false → bound_fits (plus_bound b c) ≡ false
bound-left b c h =
    ⊎_elim
    (λ e. and_left _ _ (over-left b.alone c.alone e))
    (λ e. and_right _ _ (over-left b.per c.per e))
    (and_cases _ _ h)

bound-right : (b c : Bound) → bound_fits c ≡ false → bound_fits (plus_bound b c) ≡ false
bound-right b c h =
    ⊎_elim
    (λ e. and_left _ _ (over-right b.alone c.alone e))
    (λ e. and_right _ _ (over-right b.per c.per e))
    (and_cases _ _ h)

bound-times : (k : ℕ) (b : Bound) → 0 < k → bound_fits b ≡ false → bound_fits (times_bound k b) ≡ false
bound-times k b some h =
    ⊎_elim
    (λ e. and_left _ _ (over-times k b.alone e some))
    (λ e. and_right _ _ (over-times k b.per e some))
    (and_cases _ _ h)

cost-right : (c d : Cost) → cost_fits d ≡ false → cost_fits (plus_cost c d) ≡ false
cost-right c d h =
    ⊎_elim
    (λ e. and_left _ _ (bound-right c.steps d.steps e))
    (λ e. and_right _ _ (bound-right c.bytes d.bytes e))
    (and_cases _ _ h)

-- ---- the same of a sum or none

none_by : {A : Type 0} (b : Bool) (x : A) → None ≡ (if b then Some x else None) → b ≡ false
none_by true x h = absurd (none-some x h)
none_by false x h = refl

some_by : {A : Type 0} (b : Bool) (x y : A) → Some y ≡ (if b then Some x else None) → (b ≡ true) × (y ≡ x)
some_by true x y h = (refl, same_Some y x h)
some_by false x y h = absurd (none-some y (sym h))

by_none : {A : Type 0} (b : Bool) (x : A) → b ≡ false → None ≡ (if b then Some x else None)
by_none true x h = cc
by_none false x h = refl

by_some : {A : Type 0} (b : Bool) (x : A) → b ≡ true → Some x ≡ (if b then Some x else None)
by_some true x h = refl
by_some false x h = cc

pub bound-none : (b : Bound) → None ≡ bound_within b → bound_fits b ≡ false
bound-none b h = none_by (bound_fits b) b h

pub bound-some : (b c : Bound) → Some c ≡ bound_within b → (bound_fits b ≡ true) × (c ≡ b)
bound-some b c h = some_by (bound_fits b) b c h

pub cost-none : (c : Cost) → None ≡ cost_within c → cost_fits c ≡ false
cost-none c h = none_by (cost_fits c) c h

pub cost-some : (c d : Cost) → Some d ≡ cost_within c → (cost_fits c ≡ true) × (d ≡ c)
cost-some c d h = some_by (cost_fits c) c d h

pub some-within : (c : Cost) → cost_fits c ≡ true → Some c ≡ cost_within c
some-within c h = by_some (cost_fits c) c h

pub within-left : (b c : Bound) → None ≡ bound_within b → None ≡ bound_within (plus_bound b c)
within-left b c h = by_none (bound_fits (plus_bound b c)) (plus_bound b c) (bound-left b c (bound-none b h))

pub within-right : (b c : Bound) → None ≡ bound_within c → None ≡ bound_within (plus_bound b c)
within-right b c h = by_none (bound_fits (plus_bound b c)) (plus_bound b c) (bound-right b c (bound-none c h))

pub within-times : (k : ℕ) (b : Bound) → 0 < k → None ≡ bound_within b
    → None ≡ bound_within (times_bound k b)
within-times k b some h =
    by_none (bound_fits (times_bound k b)) (times_bound k b) (bound-times k b some (bound-none b h))

pub cost-within-right : (c d : Cost) → None ≡ cost_within d → None ≡ cost_within (plus_cost c d)
cost-within-right c d h =
    by_none (cost_fits (plus_cost c d)) (plus_cost c d) (cost-right c d (cost-none d h))

-- ---- the bounds of one slot or of two

plus-zero : (b : Bound) → plus_bound b (at_most 0) ≡ b
plus-zero b = rw (plus-empty b.alone, plus-empty b.per) refl

pub one-bound : (bounds : List Bound) → sum_of (take 1 bounds) ≡ plus_bound (top bounds) (at_most 0)
one-bound [] = refl
one-bound (b ∷ bs) = refl

pub one-top : (bounds : List Bound) → sum_of (take 1 bounds) ≡ top bounds
one-top bounds = one-bound bounds ∙ plus-zero (top bounds)

pub two-bounds : (bounds : List Bound) →
    sum_of (take 2 bounds) ≡ plus_bound (top bounds) (plus_bound (top (drop 1 bounds)) (at_most 0))
two-bounds [] = refl
two-bounds (b ∷ []) = refl
two-bounds (b ∷ c ∷ bs) = refl

-- the bound of a slot, where there is one
top-map : {A : Type 0} (f : A → Bound) (depth : ℕ) (slots below : List A) (slot : A) →
    drop depth slots ≡ slot ∷ below → top (drop depth (map f slots)) ≡ f slot
top-map f zero slots below slot e = rw e refl
top-map f (suc depth) [] below slot e = cc
top-map f (suc depth) (s ∷ slots) below slot e = top-map f depth slots below slot e

top-none : {A : Type 0} (f : A → Bound) (depth : ℕ) (slots : List A) → drop depth slots ≡ [] →
    top (drop depth (map f slots)) ≡ at_most 0
top-none f zero slots e = rw e refl
top-none f (suc depth) [] e = refl
top-none f (suc depth) (s ∷ slots) e = top-none f depth slots e

pub bound-there : (depth : ℕ) (slots below : List Slot) (slot : Slot) → drop depth slots ≡ slot ∷ below →
    slot.bound ≡ top (drop depth (bounds_of slots))
bound-there depth slots below slot e = sym (top-map (λ s. s.bound) depth slots below slot e)

pub no-bound : (depth : ℕ) (slots : List Slot) → drop depth slots ≡ [] →
    at_most 0 ≡ top (drop depth (bounds_of slots))
no-bound depth slots e = sym (top-none (λ s. s.bound) depth slots e)

-- ---- the bound of the slot that an instruction pushes, if it pushes one

and_true : (b : Bool) → (b && true) ≡ b
and_true true = refl
and_true false = refl

pub fits-top : (code : StackCode) (i : Instr) (bounds : List Bound) →
    list_all bound_fits (pushed_bounds code i bounds) ≡ bound_fits (top (pushed_bounds code i bounds))
fits-top code (Item zero p) bounds = refl
fits-top code (Item (suc k) p) bounds = refl
fits-top code (Text t) bounds = and_true _
fits-top code Show bounds = and_true _
fits-top code (Call h) bounds = and_true _
fits-top code Escape bounds = and_true _
fits-top code i bounds = refl

pub top-each : (code : StackCode) (i : Instr) (bounds : List Bound) →
    bound_each (top (pushed_bounds code i bounds)) (pushes i) ≡ pushed_bounds code i bounds
top-each code (Item zero p) bounds = refl
top-each code (Item (suc k) p) bounds = refl
top-each code i bounds = refl
