-- Polynomials in n, the size of a request's data, as lists of coefficients, the constant first.
use Rattle.std.specs.Prelude.{ℕ, zero, suc, ◌+◌, ◌*◌, nat_eq, nat_le, Bool, false, List, [], ◌∷◌}
use Rattle.std.specs.List.{list_all}
use Rattle.template_code.specs.declared.limits.TheConstants.{MAX_COEFFICIENT}

-- the constant first; no list of a budget ends in a zero, as a law says
abbrev pub Polynomial : Type 0
Polynomial = List ℕ

abbrev pub ends_in_zero : Polynomial → Bool
ends_in_zero [] = false
ends_in_zero (p ∷ []) = nat_eq p 0
ends_in_zero (p ∷ q ∷ ps) = ends_in_zero (q ∷ ps)

-- a number that doesn't depend on n
abbrev pub constant : ℕ → Polynomial
constant zero = []
constant (suc c) = suc c ∷ []

abbrev pub plus : Polynomial → Polynomial → Polynomial
plus [] qs = qs
plus (p ∷ ps) [] = p ∷ ps
plus (p ∷ ps) (q ∷ qs) = (p + q) ∷ plus ps qs

-- that many times a polynomial
abbrev pub times : ℕ → Polynomial → Polynomial
times zero ps = []
times (suc k) ps = plus ps (times k ps)

-- n times a polynomial
abbrev pub times_size : Polynomial → Polynomial
times_size [] = []
times_size (p ∷ ps) = 0 ∷ p ∷ ps

-- the value at n
abbrev pub value : Polynomial → ℕ → ℕ
value [] n = 0
value (p ∷ ps) n = p + n * value ps n

-- no coefficient is too large
abbrev pub fits : Polynomial → Bool
fits ps = list_all (λ p. nat_le p MAX_COEFFICIENT) ps

-- as it is printed: with a coefficient also where the polynomial is zero
abbrev pub as_printed : Polynomial → List ℕ
as_printed [] = 0 ∷ []
as_printed (p ∷ ps) = p ∷ ps
