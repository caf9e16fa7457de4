-- A sum of polynomials, coefficient by coefficient, and values.
use Rattle.std.proofs.Common.{◌≡◌, ℕ, zero, suc, ◌+◌, ◌*◌, ◌<◌, ◌≤◌, nat_le, Bool, true, false, [], ◌∷◌, ◌++◌, length}
use Rattle.std.proofs.Common.{drop, get_or, Some, None, append_assoc, refl, sym, ap, ◌∙◌, arith}
use Rattle.std.specs.Prelude.{max, ◌&&◌, cond}
use Rattle.std.proofs.lemmas.List.Folds.{list_all-append}
use Rattle.std.proofs.lemmas.Option.{none-some, same_Some}
use Rattle.template_code.specs.declared.limits.TheConstants.{MAX_COEFFICIENT}
use Rattle.code_rules.specs.Polynomial.{Polynomial, plus, times_size, value, fits}
use Rattle.code_rules.proofs.PolynomialFacts.{plus-empty}

drop-none : (i : ℕ) → drop {A = ℕ} i [] ≡ []
drop-none zero = refl
drop-none (suc i) = refl

drop-right : (qs : Polynomial) (i : ℕ) → i < length qs → drop i qs ≡ (0 + get_or qs i 0) ∷ drop (suc i) qs
drop-right [] i h = absurd (omega (arith, h))
drop-right (q ∷ qs) zero h = let e : q ≡ 0 + q = omega arith in ap (λ x. x ∷ qs) e
drop-right (q ∷ qs) (suc i) h = drop-right qs i (omega (arith, h))

drop-left : (qs : Polynomial) (i : ℕ) → i < length qs → drop i qs ≡ (get_or qs i 0 + 0) ∷ drop (suc i) qs
drop-left qs i h = let e : 0 + get_or qs i 0 ≡ get_or qs i 0 + 0 = omega arith in
    drop-right qs i h ∙ ap (λ x. x ∷ drop (suc i) qs) e

-- the sum from an index on is the coefficient there and the sum from the next index on
pub plus-drop : (ps qs : Polynomial) (i : ℕ) → i < max (length ps) (length qs) →
    plus (drop i ps) (drop i qs) ≡ (get_or ps i 0 + get_or qs i 0) ∷ plus (drop (suc i) ps) (drop (suc i) qs)
plus-drop [] [] i h = absurd (omega (arith, h))
plus-drop [] (q ∷ qs) i h =
    ap (λ x. plus x (drop i (q ∷ qs))) (drop-none i) ∙ drop-right (q ∷ qs) i (omega (arith, h))
plus-drop (p ∷ ps) [] i h =
    ap (plus (drop i (p ∷ ps))) (drop-none i)
    ∙ (plus-empty (drop i (p ∷ ps)) ∙ (drop-left (p ∷ ps) i (omega (arith, h))
    ∙ ap (λ x. (get_or (p ∷ ps) i 0 + 0) ∷ x) (sym (plus-empty (drop (suc i) (p ∷ ps))))))
plus-drop (p ∷ ps) (q ∷ qs) zero h = refl
plus-drop (p ∷ ps) (q ∷ qs) (suc i) h = plus-drop ps qs i (omega (arith, h))

value-zero : (ps : Polynomial) → value ps 0 ≡ get_or ps 0 0
value-zero [] = refl
value-zero (p ∷ ps) = grind arith

-- a value that is too large stays so where a coefficient is put before the list
pub value-over : (p : ℕ) (ps : Polynomial) (n l m : ℕ) → l ≤ m → get_or ps 0 0 < l → m ≤ value ps n
    → m ≤ value (p ∷ ps) n
value-over p ps zero l m le lt h = absurd (let e = value-zero ps in omega (arith, le, lt, h, e))
value-over p ps (suc n) l m le lt h = let k : suc n * value ps (suc n)
    ≡ value ps (suc n) + n * value ps (suc n) = grind arith in omega (arith, h, k)

-- one more coefficient is summed
pub sum-more : (ps qs done : Polynomial) (i both : ℕ) → i < max (length ps) (length qs) →
    done ++ plus (drop i ps) (drop i qs) ≡ plus ps qs → both ≡ get_or ps i 0 + get_or qs i 0 →
    (done ++ both ∷ []) ++ plus (drop (i + 1) ps) (drop (i + 1) qs) ≡ plus ps qs
sum-more ps qs done i both lt h e =
    let s : i + 1 ≡ suc i = omega arith in
    rw s (rw e (append_assoc done ((get_or ps i 0 + get_or qs i 0) ∷ []) (plus (drop (suc i) ps) (drop (suc i) qs))
    ∙ (ap (λ x. done ++ x) (sym (plus-drop ps qs i lt)) ∙ h)))

pub fits-more : (done : Polynomial) (both : ℕ) → fits done ≡ true → nat_le both MAX_COEFFICIENT ≡ true →
    fits (done ++ both ∷ []) ≡ true
fits-more done both f g = rw (list_all-append (λ p. nat_le p MAX_COEFFICIENT) done (both ∷ []), f, g) refl

pub sum-over : (ps qs done : Polynomial) (i : ℕ) → i < max (length ps) (length qs) →
    done ++ plus (drop i ps) (drop i qs) ≡ plus ps qs → nat_le (get_or ps i 0 + get_or qs i 0) MAX_COEFFICIENT
    ≡ false → fits (plus ps qs) ≡ false
sum-over ps qs done i lt h g =
    rw (sym h) (rw (plus-drop ps qs i lt) (rw (
      list_all-append (λ p. nat_le p MAX_COEFFICIENT) done
          ((get_or ps i 0 + get_or qs i 0) ∷ plus (drop (suc i) ps) (drop (suc i) qs)),
      g,
    ) (and-false (fits done))))
  where
    and-false : (b : Bool) → (b && false) ≡ false
    and-false true = refl
    and-false false = refl

pub some-cond : (b : Bool) (x y : ℕ) → Some y ≡ cond b (Some x) None → (b ≡ true) × (y ≡ x)
some-cond true x y h = (refl, same_Some y x h)
some-cond false x y h = absurd (none-some y (sym h))

pub fits_times_size : (ps : Polynomial) → fits (times_size ps) ≡ fits ps
fits_times_size [] = refl
fits_times_size (p ∷ ps) = refl
