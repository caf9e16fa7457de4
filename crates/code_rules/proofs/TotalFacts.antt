-- The total of a bound, the sum of all its coefficients. A sum adds totals and the turns of a loop keep them, so that
-- of a region is at most that of its instructions together.
use Rattle.std.proofs.Common.{◌≡◌, ℕ, zero, suc, ◌+◌, ◌*◌, ◌≤◌, Bool, true, false, List, [], ◌∷◌, length, refl, arith}
use Rattle.std.specs.Prelude.{if◌then◌else◌, nat_le}
use Rattle.std.proofs.lemmas.Bool.{le-leb, and_from}
use Rattle.template_code.specs.Code.{StackCode}
use Rattle.template_code.specs.declared.limits.TheConstants.{MAX_COEFFICIENT}
use Rattle.code_rules.specs.Polynomial.{Polynomial, constant, plus, times, times_size, fits}
use Rattle.code_rules.specs.Bounds.{Bound, at_most, plus_bound, times_bound, sum_of, bound_fits, of_turns}
use Rattle.code_rules.specs.Costs.{goes_over_part, Cost, no_cost, plus_cost, cost_fits, cost_of_turns, cost_at}
use Rattle.code_rules.specs.Table.{TableEntry}
use Rattle.code_rules.specs.Rules.{same_nest}
use Rattle.code_rules.specs.Regions.{share, region}

-- the sum of all coefficients
abbrev pub sum : Polynomial → ℕ
sum [] = 0
sum (p ∷ ps) = p + sum ps

abbrev pub total : Bound → ℕ
total b = sum b.alone + sum b.per

sum-plus : (ps qs : Polynomial) → sum (plus ps qs) ≡ sum ps + sum qs
sum-plus [] qs = omega arith
sum-plus (p ∷ ps) [] = omega arith
sum-plus (p ∷ ps) (q ∷ qs) = omega (arith, sum-plus ps qs)

sum-constant : (c : ℕ) → sum (constant c) ≡ c
sum-constant zero = refl
sum-constant (suc c) = omega arith

sum-times : (k : ℕ) (ps : Polynomial) → sum (times k ps) ≡ k * sum ps
sum-times zero ps = grind arith
sum-times (suc k) ps =
    let e : suc k * sum ps ≡ sum ps + k * sum ps = grind arith in
    omega (arith, e, sum-plus ps (times k ps), sum-times k ps)

sum-times_size : (ps : Polynomial) → sum (times_size ps) ≡ sum ps
sum-times_size [] = refl
sum-times_size (p ∷ ps) = omega arith

pub total-at_most : (c : ℕ) → total (at_most c) ≡ c
total-at_most c = omega (arith, sum-constant c)

pub total-plus_bound : (b c : Bound) → total (plus_bound b c) ≡ total b + total c
total-plus_bound b c = omega (arith, sum-plus b.alone c.alone, sum-plus b.per c.per)

pub total-times_bound : (k : ℕ) (b : Bound) → total (times_bound k b) ≡ k * total b
total-times_bound k b =
    let e : k * (sum b.alone + sum b.per) ≡ k * sum b.alone + k * sum b.per = grind arith in
    omega (arith, e, sum-times k b.alone, sum-times k b.per)

-- each bound has at most that total
abbrev pub AllLight : ℕ → List Bound → Type 0
AllLight most [] = Unit {0}
AllLight most (b ∷ bs) = (total b ≤ most) × AllLight most bs

pub total-sum_of : (most : ℕ) (bounds : List Bound) → AllLight most bounds →
    total (sum_of bounds) ≤ length bounds * most
total-sum_of most [] h = omega arith
total-sum_of most (b ∷ bs) h =
    let e : suc (length bs) * most ≡ most + length bs * most = grind arith in
    omega (arith, e, h.0, total-plus_bound b (sum_of bs), total-sum_of most bs h.1)

-- all turns of a loop have the total of one
pub total-of_turns : (is_part : Bool) (b : Bound) → total (of_turns is_part b) ≡ total b
total-of_turns true b = omega (arith, sum-plus b.alone b.per)
total-of_turns false b = omega (arith, sum-times_size (plus b.alone b.per), sum-plus b.alone b.per)

-- the parts of a cost have at most that total
pub record IsWithin (most : ℕ) (c : Cost) : Type 0 where
  pub steps : total c.steps ≤ most
  pub bytes : total c.bytes ≤ most

within-no_cost : (most : ℕ) → IsWithin most no_cost
within-no_cost most = record { steps = omega arith; bytes = omega arith }

within-plus : (a b : ℕ) (c d : Cost) → IsWithin a c → IsWithin b d → IsWithin (a + b) (plus_cost c d)
within-plus a b c d h k = record {
  steps = omega (arith, total-plus_bound c.steps d.steps, h.steps, k.steps);
  bytes = omega (arith, total-plus_bound c.bytes d.bytes, h.bytes, k.bytes);
}

within-turns : (most : ℕ) (is_part : Bool) (c : Cost) → IsWithin most c → IsWithin most (cost_of_turns is_part c)
within-turns most is_part c h = record {
  steps = omega (arith, total-of_turns is_part c.steps, h.steps);
  bytes = omega (arith, total-of_turns is_part c.bytes, h.bytes);
}

within-either : (most : ℕ) (b : Bool) (c d : Cost) → IsWithin most c → IsWithin most d →
    IsWithin most (if b then c else d)
within-either most true c d h k = h
within-either most false c d h k = k

within-share : (code : StackCode) (most : ℕ) (outer ns : List ℕ) (c : Cost) → IsWithin most c →
    IsWithin most (share code outer ns c)
within-share code most outer [] c h = within-either most (same_nest outer []) c no_cost h (within-no_cost most)
within-share code most outer (opener ∷ ns) c h =
    let turned = cost_of_turns (goes_over_part code opener) c in
    within-either most (same_nest outer (opener ∷ ns)) c (share code outer ns turned) h
    (within-share code most outer ns turned (within-turns most (goes_over_part code opener) c h))

-- a region up to an index has at most that total for each instruction, whatever the loops
pub within-region : (code : StackCode) (table : ℕ → TableEntry) (most : ℕ) (nest : List ℕ) (n : ℕ) →
    ((index : ℕ) → IsWithin most (cost_at code index)) → IsWithin (n * most) (region code table nest n)
within-region code table most nest zero each = within-no_cost (0 * most)
within-region code table most nest (suc n) each =
    let before = region code table nest n in
    let own = share code nest (table n).nest (cost_at code n) in
    let e : suc n * most ≡ n * most + most = grind arith in
    rw e (within-plus (n * most) most before own (within-region code table most nest n each)
    (within-share code most nest (table n).nest (cost_at code n) (each n)))

fits-total : (ps : Polynomial) → sum ps ≤ MAX_COEFFICIENT → fits ps ≡ true
fits-total [] h = refl
fits-total (p ∷ ps) h =
    and_from (nat_le p MAX_COEFFICIENT) (fits ps) (le-leb p MAX_COEFFICIENT (omega (arith, h)))
    (fits-total ps (omega (arith, h)))

-- no coefficient is larger than the total
pub bound_fits-total : (b : Bound) → total b ≤ MAX_COEFFICIENT → bound_fits b ≡ true
bound_fits-total b h =
    and_from (fits b.alone) (fits b.per) (fits-total b.alone (omega (arith, h))) (fits-total b.per (omega (arith, h)))

pub cost_fits-within : (most : ℕ) (c : Cost) → most ≤ MAX_COEFFICIENT → IsWithin most c → cost_fits c ≡ true
cost_fits-within most c le h =
    and_from (bound_fits c.steps) (bound_fits c.bytes) (bound_fits-total c.steps (omega (arith, h.steps, le)))
    (bound_fits-total c.bytes (omega (arith, h.bytes, le)))
