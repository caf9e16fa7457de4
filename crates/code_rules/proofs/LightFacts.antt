-- Code whose instructions have light bounds breaks no limit, whatever its loops: what the rule V13 asks, for compilers.
use Rattle.std.proofs.Common.{◌≡◌, ℕ, zero, suc, ◌+◌, ◌*◌, ◌≤◌, true, false, List, [], ◌∷◌}
use Rattle.std.proofs.Common.{length, take, Option, Some, None, refl, ap, ◌∙◌, arith}
use Rattle.std.specs.Prelude.{not, slice_get}
use Rattle.std.specs.List.{list_all}
use Rattle.std.specs.Option.{option_map_or}
use Rattle.std.proofs.lemmas.Bool.{and_from}
use Rattle.std.proofs.lemmas.Option.{slice_get_within}
use Rattle.helper_set.specs.Helpers.{argument_kinds}
use Rattle.helper_set.specs.declared.helper.Helper.{Helper}
use Rattle.helper_set.specs.declared.helper.Helper.TheVariants.{Upper, Lower, Trim, Size, Eq, Neq, Contains, Not}
use Rattle.helper_set.specs.declared.helper.Helper.TheVariants.{Base64, UrlEncode, DefaultIfEmpty, JsonPath}
use Rattle.helper_set.specs.declared.limits.TheConstants.{MAX_NUMBER_LENGTH, MAX_TRUTH_LENGTH}
use Rattle.template_code.specs.Code.{StackCode}
use Rattle.template_code.specs.Instructions.{flow}
use Rattle.template_code.specs.declared.instr.Instr.{Instr}
use Rattle.template_code.specs.declared.limits.TheConstants.{MAX_COEFFICIENT}
use Rattle.code_rules.specs.Bounds.{Bound, at_most, plus_bound, times_bound, sum_of, bound_fits}
use Rattle.code_rules.specs.Costs.{helper_bound, pushed_bounds, bounds_at, written_bound, no_cost, cost_fits, cost}
use Rattle.code_rules.specs.Costs.{cost_at}
use Rattle.code_rules.specs.Table.{entry_at}
use Rattle.code_rules.specs.Regions.{region}
use Rattle.code_rules.specs.Verdict.{judged_nests, is_over, is_over_at, IsWithinLimits}
use Rattle.code_rules.proofs.TotalFacts.{total, AllLight, IsWithin, within-region, bound_fits-total, cost_fits-within}
use Rattle.code_rules.proofs.TotalFacts.{total-at_most, total-plus_bound, total-times_bound, total-sum_of}

-- the bounds of what an instruction pushes and writes have at most that total, given those of the stack
pub record IsLight (code : StackCode) (most : ℕ) (i : Instr) (bounds : List Bound) : Type 0 where
  pub pushed : AllLight most (pushed_bounds code i bounds)
  pub written : total (written_bound code i bounds) ≤ most

abbrev pub EachIsLight : StackCode → ℕ → Type 0
EachIsLight code most =
    (index : ℕ) (i : Instr) → slice_get code.instrs index ≡ Some i → IsLight code most i (bounds_at code index)

all-fit : (most : ℕ) (bounds : List Bound) → most ≤ MAX_COEFFICIENT → AllLight most bounds →
    list_all bound_fits bounds ≡ true
all-fit most [] le h = refl
all-fit most (b ∷ bs) le h =
    and_from (bound_fits b) (list_all bound_fits bs) (bound_fits-total b (omega (arith, h.0, le)))
    (all-fit most bs le h.1)

times-more : (m n most : ℕ) → m ≤ n → m * most ≤ n * most
times-more zero n most le = grind arith
times-more (suc m) zero most le = absurd (omega (arith, le))
times-more (suc m) (suc n) most le =
    let e : suc m * most ≡ m * most + most = grind arith in
    let f : suc n * most ≡ n * most + most = grind arith in
    omega (arith, e, f, times-more m n most (omega (arith, le)))

-- where the bounds of each instruction have at most that total, and as often as there are instructions that is no more
-- than a coefficient may be, all limits are kept
pub within-light : (code : StackCode) (most : ℕ) → 1 ≤ most → length code.instrs * most ≤ MAX_COEFFICIENT →
    EachIsLight code most → IsWithinLimits code
within-light code most some few light index = by (slice_get code.instrs index) refl
  where
    cost-by : (n : ℕ) (o : Option Instr) → slice_get code.instrs n ≡ o →
        IsWithin most (option_map_or (λ i. cost code i (bounds_at code n)) o no_cost)
    cost-by n None at = record { steps = omega arith; bytes = omega arith }
    cost-by n (Some i) at = record { steps = omega (arith, some); bytes = (light n i at).written }

    each-cost : (n : ℕ) → IsWithin most (cost_at code n)
    each-cost n = cost-by n (slice_get code.instrs n) refl

    nests-fit : (nests : List (List ℕ)) → suc index ≤ length code.instrs →
        list_all (λ nest. cost_fits (region code (entry_at code) nest (suc index))) nests ≡ true
    nests-fit [] le = refl
    nests-fit (nest ∷ nests) le =
        and_from (cost_fits (region code (entry_at code) nest (suc index)))
        (list_all (λ ns. cost_fits (region code (entry_at code) ns (suc index))) nests)
        (cost_fits-within (suc index * most) (region code (entry_at code) nest (suc index))
        (omega (arith, times-more (suc index) (length code.instrs) most le, few))
        (within-region code (entry_at code) most nest (suc index) each-cost))
        (nests-fit nests le)

    by : (o : Option Instr) → slice_get code.instrs index ≡ o → is_over_at code (entry_at code) index ≡ false
    by None at = ap (is_over code (entry_at code) index) at
    by (Some i) at =
        let within = slice_get_within code.instrs index i at in
        let le : suc index ≤ length code.instrs = omega (arith, within) in
        let one : 1 * most ≡ most = grind arith in
        let pushed = list_all bound_fits (pushed_bounds code i (bounds_at code index)) in
        let nests = judged_nests (flow i) (entry_at code index).nest in
        let spent = list_all (λ nest. cost_fits (region code (entry_at code) nest (suc index))) nests in
        let small : most ≤ MAX_COEFFICIENT =
        omega (arith, times-more 1 (length code.instrs) most (omega (arith, le)), few, one) in
        ap (is_over code (entry_at code) index) at
        ∙ ap not (and_from pushed spent
        (all-fit most (pushed_bounds code i (bounds_at code index)) small (light index i at).pushed)
        (nests-fit nests le))

-- the bound of a helper's result

first-few : (n : ℕ) (bounds : List Bound) → length (take n bounds) ≤ n
first-few zero bounds = omega arith
first-few (suc n) [] = omega arith
first-few (suc n) (b ∷ bs) = omega (arith, first-few n bs)

times-same : (k a b : ℕ) → a ≤ b → k * a ≤ k * b
times-same zero a b le = grind arith
times-same (suc k) a b le =
    let e : suc k * a ≡ k * a + a = grind arith in
    let f : suc k * b ≡ k * b + b = grind arith in
    omega (arith, e, f, le, times-same k a b le)

-- what grows from the first n bounds
light-grown : (times plus n most : ℕ) (bounds : List Bound) → AllLight most (take n bounds) →
    total (plus_bound (times_bound times (sum_of (take n bounds))) (at_most plus)) ≤ times * (n * most) + plus
light-grown times plus n most bounds h =
    let taken = take n bounds in
    let summed = total-sum_of most taken h in
    let few = times-more (length taken) n most (first-few n bounds) in
    let grown = times-same times (total (sum_of taken)) (n * most) (omega (arith, summed, few)) in
    omega (
      arith,
      grown,
      total-plus_bound (times_bound times (sum_of taken)) (at_most plus),
      total-times_bound times (sum_of taken),
      total-at_most plus,
    )

-- a helper's result has at most three times the total of the heaviest argument
pub light-call : (h : Helper) (most : ℕ) (bounds : List Bound) → MAX_NUMBER_LENGTH ≤ most →
    AllLight most (take (length (argument_kinds h)) bounds) → total (helper_bound h bounds) ≤ 3 * most
light-call Upper most bounds le h = omega (arith, le, light-grown 1 0 1 most bounds h)
light-call Lower most bounds le h = omega (arith, le, light-grown 1 0 1 most bounds h)
light-call Trim most bounds le h = omega (arith, le, light-grown 1 0 1 most bounds h)
light-call Size most bounds le h = omega (arith, le, light-grown 0 MAX_NUMBER_LENGTH 1 most bounds h)
light-call Eq most bounds le h = omega (arith, le, light-grown 0 MAX_TRUTH_LENGTH 2 most bounds h)
light-call Neq most bounds le h = omega (arith, le, light-grown 0 MAX_TRUTH_LENGTH 2 most bounds h)
light-call Contains most bounds le h = omega (arith, le, light-grown 0 MAX_TRUTH_LENGTH 2 most bounds h)
light-call Not most bounds le h = omega (arith, le, light-grown 0 MAX_TRUTH_LENGTH 1 most bounds h)
light-call Base64 most bounds le h = omega (arith, le, light-grown 2 4 1 most bounds h)
light-call UrlEncode most bounds le h = omega (arith, le, light-grown 3 0 1 most bounds h)
light-call DefaultIfEmpty most bounds le h = omega (arith, le, light-grown 1 0 2 most bounds h)
light-call JsonPath most bounds le h = omega (arith, le)
