-- Sums of polynomials, and their values.
use Rattle.std.proofs.Common.{◌≡◌, ℕ, zero, suc, ◌+◌, ◌*◌, [], ◌∷◌, refl, sym, ap, ◌∙◌, arith}
use Rattle.code_rules.specs.Polynomial.{Polynomial, constant, plus, times_size, value}

pub value-constant : (c n : ℕ) → value (constant c) n ≡ c
value-constant zero n = refl
value-constant (suc c) n = grind arith

pub value-plus : (ps qs : Polynomial) (n : ℕ) → value (plus ps qs) n ≡ value ps n + value qs n
value-plus [] qs n = omega arith
value-plus (p ∷ ps) [] n = omega arith
value-plus (p ∷ ps) (q ∷ qs) n = rw (value-plus ps qs n) (grind arith)

pub value-times_size : (ps : Polynomial) (n : ℕ) → value (times_size ps) n ≡ n * value ps n
value-times_size [] n = grind arith
value-times_size (p ∷ ps) n = grind arith

pub plus-empty : (ps : Polynomial) → plus ps [] ≡ ps
plus-empty [] = refl
plus-empty (p ∷ ps) = refl

pub plus-assoc : (ps qs rs : Polynomial) → plus (plus ps qs) rs ≡ plus ps (plus qs rs)
plus-assoc [] qs rs = refl
plus-assoc (p ∷ ps) [] rs = refl
plus-assoc (p ∷ ps) (q ∷ qs) [] = refl
plus-assoc (p ∷ ps) (q ∷ qs) (r ∷ rs) =
    let e : (p + q) + r ≡ p + (q + r) = omega arith in
    rw (e, plus-assoc ps qs rs) refl

pub plus-comm : (ps qs : Polynomial) → plus ps qs ≡ plus qs ps
plus-comm [] qs = sym (plus-empty qs)
plus-comm (p ∷ ps) [] = refl
plus-comm (p ∷ ps) (q ∷ qs) =
    let e : p + q ≡ q + p = omega arith in
    rw (e, plus-comm ps qs) refl

-- two sums, of which the second parts change places
pub plus-crossed : (a b c d : Polynomial) → plus (plus a b) (plus c d) ≡ plus (plus a c) (plus b d)
plus-crossed a b c d =
    plus-assoc a b (plus c d)
    ∙ (ap (plus a) (sym (plus-assoc b c d) ∙ (ap (λ x. plus x d) (plus-comm b c) ∙ plus-assoc c b d))
    ∙ sym (plus-assoc a c (plus b d)))

pub times_size-plus : (ps qs : Polynomial) → times_size (plus ps qs) ≡ plus (times_size ps) (times_size qs)
times_size-plus [] qs = refl
times_size-plus (p ∷ ps) [] = refl
times_size-plus (p ∷ ps) (q ∷ qs) = refl
