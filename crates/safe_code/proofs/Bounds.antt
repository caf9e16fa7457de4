-- The values of bounds, and of the polynomials in them.
use Rattle.std.proofs.Common.{◌≡◌, ℕ, zero, suc, ◌+◌, ◌*◌, ◌≤◌, ◌<◌, ◌^◌, Bool, true}
use Rattle.std.proofs.Common.{false, List, [], ◌∷◌, length, pos, negsuc, ℤ, Some, ap, ◌∙◌, arith}
use Rattle.std.specs.Prelude.{slice_get, unwrap_or, FitsSigned, decimal}
use Rattle.std.specs.Fmt.{signed_decimal}
use Rattle.std.specs.Int.{w64}
use Rattle.std.proofs.Math.Nat.{mul-le-mul}
use Rattle.std.proofs.lemmas.Fmt.{length-decimal-le}
use Rattle.data_tree.specs.Json.{truth_text}
use Rattle.template_code.specs.Code.{StackCode}
use Rattle.code_rules.specs.Polynomial.{Polynomial, times, value}
use Rattle.code_rules.specs.Bounds.{Bound, at_most, all_data, item_data, plus_bound, times_bound, bound_value}
use Rattle.code_rules.specs.Costs.{text_bound}
use Rattle.code_rules.proofs.PolynomialFacts.{value-constant, value-plus}

value-times : (k : ℕ) (ps : Polynomial) (n : ℕ) → value (times k ps) n ≡ k * value ps n
value-times zero ps n = grind arith
value-times (suc k) ps n = value-plus ps (times k ps) n ∙ rw (value-times k ps n) (grind arith)

-- a polynomial grows with n
pub value-grows : (ps : Polynomial) (m n : ℕ) → m ≤ n → value ps m ≤ value ps n
value-grows [] m n le = omega arith
value-grows (p ∷ ps) m n le = omega (arith, mul-le-mul le (value-grows ps m n le))

pub bound-at_most : (c n m : ℕ) → bound_value (at_most c) n m ≡ c
bound-at_most c n m = omega (arith, value-constant c n)

pub bound-all : (n m : ℕ) → bound_value all_data n m ≡ n
bound-all n m = grind arith

pub bound-item : (n m : ℕ) → bound_value item_data n m ≡ m
bound-item n m = grind arith

pub bound-plus : (b c : Bound) (n m : ℕ) →
    bound_value (plus_bound b c) n m ≡ bound_value b n m + bound_value c n m
bound-plus b c n m = rw (value-plus b.alone c.alone n, value-plus b.per c.per n) (grind arith)

pub bound-times : (k : ℕ) (b : Bound) (n m : ℕ) → bound_value (times_bound k b) n m ≡ k * bound_value b n m
bound-times k b n m = rw (value-times k b.alone n, value-times k b.per n) (grind arith)

-- what is printed keeps to the bounds of literals

pub text-within : (code : StackCode) (t : ℕ) (text : List ℕ) (n m : ℕ) →
    slice_get code.texts t ≡ Some text → bound_value (text_bound code t) n m ≡ length text
text-within code t text n m h = bound-at_most (length (unwrap_or (slice_get code.texts t) [])) n m
    ∙ ap (λ o. length (unwrap_or o [])) h

decimal-short : (m : ℕ) → m ≤ 2 ^ 63 → length (decimal m) ≤ 19
decimal-short m h = length-decimal-le 19 m (omega arith) (omega (arith, h)) (omega (arith, h))

signed-short : (z : ℤ) → FitsSigned w64 z → length (signed_decimal z) ≤ 20
signed-short (pos m) h = let fits = h.sfits in omega (arith, decimal-short m (omega arith))
signed-short (negsuc m) h = let fits = h.sfits in omega (arith, decimal-short (suc m) (omega arith))

pub number-within : (z : ℤ) (n m : ℕ) → FitsSigned w64 z
    → length (signed_decimal z) ≤ bound_value (at_most 20) n m
number-within z n m h = omega (arith, signed-short z h, bound-at_most 20 n m)

-- an index below 2^64 has at most 20 digits
pub index-within : (k n m : ℕ) → k < 2 ^ 64 → length (signed_decimal (pos k)) ≤ bound_value (at_most 20) n m
index-within k n m h =
    omega (arith, length-decimal-le 20 k (omega arith) (omega (arith, h)) h, bound-at_most 20 n m)

pub truth-within : (b : Bool) (n m : ℕ) → length (truth_text b) ≤ bound_value (at_most 5) n m
truth-within true n m = omega (arith, bound-at_most 5 n m)
truth-within false n m = omega (arith, bound-at_most 5 n m)
