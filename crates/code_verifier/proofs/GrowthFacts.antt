-- Where a part of a sum has a coefficient that is too large, the sum has one.
use Rattle.std.proofs.Common.{◌≡◌, ℕ, zero, suc, ◌+◌, ◌<◌, ◌≤◌, nat_le, Bool, true, false, []}
use Rattle.std.proofs.Common.{◌∷◌, Some, None, refl, sym, subst, ⊎_elim, ◌-◌, arith}
use Rattle.std.specs.Prelude.{if◌then◌else◌}
use Rattle.std.proofs.lemmas.Bool.{and_cases, and_left, and_right}
use Rattle.std.proofs.lemmas.Bool.Decides.{nat_tests}
use Rattle.std.proofs.lemmas.Option.{none-some, same_Some}
use Rattle.template_code.specs.declared.limits.TheConstants.{MAX_COEFFICIENT}
use Rattle.code_rules.specs.Polynomial.{Polynomial, plus, times, fits}
use Rattle.code_verifier.specs.Inner.Limited.{within}

coefficient-over : (p q : ℕ) → nat_le p MAX_COEFFICIENT ≡ false → nat_le (p + q) MAX_COEFFICIENT ≡ false
coefficient-over p q h = grind (arith, nat_tests)

coefficient-over_right : (p q : ℕ) → nat_le q MAX_COEFFICIENT ≡ false → nat_le (p + q) MAX_COEFFICIENT ≡ false
coefficient-over_right p q h = grind (arith, nat_tests)

pub over-left : (ps qs : Polynomial) → fits ps ≡ false → fits (plus ps qs) ≡ false
over-left [] qs h = cc
over-left (p ∷ ps) [] h = h
over-left (p ∷ ps) (q ∷ qs) h =
    ⊎_elim
    (λ e. and_left _ _ (coefficient-over p q e))
    (λ e. and_right _ _ (over-left ps qs e))
    (and_cases _ _ h)

pub over-right : (ps qs : Polynomial) → fits qs ≡ false → fits (plus ps qs) ≡ false
over-right [] qs h = h
over-right (p ∷ ps) [] h = cc
over-right (p ∷ ps) (q ∷ qs) h =
    ⊎_elim
    (λ e. and_left _ _ (coefficient-over_right p q e))
    (λ e. and_right _ _ (over-right ps qs e))
    (and_cases _ _ h)

pub over-times : (k : ℕ) (ps : Polynomial) → fits ps ≡ false → 0 < k → fits (times k ps) ≡ false
over-times zero ps h some = absurd (omega arith)
over-times (suc k) ps h some = over-left ps (times k ps) h

over-later : (k more : ℕ) (ps : Polynomial) → fits (times k ps) ≡ false → fits (times (more + k) ps) ≡ false
over-later k zero ps h = let e : zero + k ≡ k = omega arith in rw e h
over-later k (suc more) ps h =
    let e : suc more + k ≡ suc (more + k) = omega arith in
    rw e (over-right ps (times (more + k) ps) (over-later k more ps h))

-- ---- the same of a sum or none

none_is_over : (b : Bool) (ps : Polynomial) → None ≡ (if b then Some ps else None) → b ≡ false
none_is_over true ps h = absurd (none-some ps h)
none_is_over false ps h = refl

over_is_none : (ps : Polynomial) → fits ps ≡ false → None ≡ within ps
over_is_none ps h = rw h refl

some_is : (b : Bool) (ps qs : Polynomial) → Some qs ≡ (if b then Some ps else None) → qs ≡ ps
some_is true ps qs h = same_Some qs ps h
some_is false ps qs h = absurd (none-some qs (sym h))

pub within-some : (ps qs : Polynomial) → Some qs ≡ within ps → qs ≡ ps
within-some ps qs h = some_is (fits ps) ps qs h

pub within-later : (k n : ℕ) (ps : Polynomial) → k ≤ n → None ≡ within (times k ps)
    → None ≡ within (times n ps)
within-later k n ps le h =
    let e : (n - k) + k ≡ n = omega arith in
    let P : ℕ → Type 0 = λ m. None ≡ within (times m ps) in
    subst P e (over_is_none (times ((n - k) + k) ps) (over-later k (n - k) ps (none_is_over _ (times k ps) h)))

-- one more of the many
pub times-none : (done count : ℕ) (ps product : Polynomial) → done < count →
    Some product ≡ within (times done ps) → None ≡ within (plus ps product) → None ≡ within (times count ps)
times-none done count ps product le before h =
    let P : Polynomial → Type 0 = λ x. None ≡ within (plus ps x) in
    within-later (suc done) count ps (omega arith) (subst P (within-some (times done ps) product before) h)

pub times-next : (done : ℕ) (ps product sum : Polynomial) → Some product ≡ within (times done ps) →
    Some sum ≡ within (plus ps product) → Some sum ≡ within (times (done + 1) ps)
times-next done ps product sum before h =
    let P : Polynomial → Type 0 = λ x. Some sum ≡ within (plus ps x) in
    let e : done + 1 ≡ suc done = omega arith in
    rw e (subst P (within-some (times done ps) product before) h)
