-- Each code has a table, and all its tables agree on its instructions; so one rule is broken by all of them.
use Rattle.std.proofs.Common.{◌≡◌, ℕ, zero, suc, ◌<◌, ◌≤◌, Bool, true, false, List, [], ◌∷◌}
use Rattle.std.proofs.Common.{length, map, Some, refl, sym, ap, ◌∙◌, ⊎_elim, arith}
use Rattle.std.specs.Prelude.{slice_get, not, ◌&&◌, if◌then◌else◌}
use Rattle.std.specs.List.{list_all}
use Rattle.std.proofs.lemmas.Option.{slice_get_cases}
use Rattle.template_code.specs.Code.{StackCode}
use Rattle.template_code.specs.Instructions.{flow}
use Rattle.template_code.specs.declared.instr.Instr.{Instr}
use Rattle.code_rules.specs.Bounds.{bound_fits}
use Rattle.code_rules.specs.Costs.{pushed_bounds, bounds_at, plus_cost, cost_fits, cost_at}
use Rattle.code_rules.specs.Table.{TableEntry, entry_after, entry_next, IsTable, entry_at}
use Rattle.code_rules.specs.Rules.{jumps, jumps_among, nests_to, broken, broken_where}
use Rattle.code_rules.specs.Regions.{share, region}
use Rattle.code_rules.specs.Verdict.{judged_nests, is_over, is_over_at, or_over, verdict}

pub entry_at-next : (code : StackCode) (index : ℕ) (i : Instr) → slice_get code.instrs index ≡ Some i →
    entry_at code (suc index) ≡ entry_after index i (entry_at code index)
entry_at-next code index i h = ap (λ o. entry_next index o (entry_at code index)) h

pub IsTable-entry_at : (code : StackCode) → IsTable code (entry_at code)
IsTable-entry_at code = record { start = refl; next = entry_at-next code }

pub entry-same : (code : StackCode) (t u : ℕ → TableEntry) → IsTable code t → IsTable code u → (index : ℕ) →
    index ≤ length code.instrs → t index ≡ u index
entry-same code t u a b zero le = a.start ∙ sym b.start
entry-same code t u a b (suc index) le =
    ⊎_elim
    (λ w. a.next index w.0 w.2 ∙ (ap (entry_after index w.0) (entry-same code t u a b index (omega (arith, le)))
    ∙ sym (b.next index w.0 w.2)))
    (λ w. absurd (omega (arith, le, w.0)))
    ((slice_get_cases code.instrs index).1)

-- two tables agree up to the end of the code
abbrev Agree : StackCode → (ℕ → TableEntry) → (ℕ → TableEntry) → Type 0
Agree code t u = (index : ℕ) → index ≤ length code.instrs → t index ≡ u index

abbrev nests_of : (ℕ → TableEntry) → List ℕ → List (List ℕ)
nests_of t sources = map (λ source. (t source).nest) sources

sources-same : (code : StackCode) (t u : ℕ → TableEntry) → Agree code t u → (target n : ℕ) →
    n ≤ length code.instrs → nests_of t (jumps_among code n target) ≡ nests_of u (jumps_among code n target)
sources-same code t u same target zero le = refl
sources-same code t u same target (suc n) le =
    by (sources-same code t u same target n (omega (arith, le))) (jumps (slice_get code.instrs n) target)
  where
    earlier : List ℕ
    earlier = jumps_among code n target

    by : nests_of t earlier ≡ nests_of u earlier → (b : Bool) →
        nests_of t (if b then n ∷ earlier else earlier) ≡ nests_of u (if b then n ∷ earlier else earlier)
    by rest true =
        ap (λ e. e.nest ∷ nests_of t earlier) (same n (omega (arith, le)))
        ∙ ap (λ ns. (u n).nest ∷ ns) rest
    by rest false = rest

region-same : (code : StackCode) (t u : ℕ → TableEntry) → Agree code t u → (nest : List ℕ) (n : ℕ) →
    n ≤ length code.instrs → region code t nest n ≡ region code u nest n
region-same code t u same nest zero le = refl
region-same code t u same nest (suc n) le =
    ap (λ c. plus_cost c (share code nest (t n).nest (cost_at code n)))
    (region-same code t u same nest n (omega (arith, le)))
    ∙ ap (λ (e : TableEntry). plus_cost (region code u nest n) (share code nest e.nest (cost_at code n)))
    (same n (omega (arith, le)))

list_all-same : {A : Type 0} (f g : A → Bool) (xs : List A) → ((x : A) → f x ≡ g x)
    → list_all f xs ≡ list_all g xs
list_all-same f g [] h = refl
list_all-same f g (x ∷ xs) h = ap (λ b. b && list_all f xs) (h x) ∙ ap (λ b. g x && b) (list_all-same f g xs h)

abbrev all_fit : StackCode → (ℕ → TableEntry) → ℕ → List (List ℕ) → Bool
all_fit code t index nests = list_all (λ nest. cost_fits (region code t nest (suc index))) nests

over-some : (code : StackCode) (t u : ℕ → TableEntry) → Agree code t u → (index : ℕ) (i : Instr) →
    index < length code.instrs → is_over code t index (Some i) ≡ is_over code u index (Some i)
over-some code t u same index i lt =
    let pushed = list_all bound_fits (pushed_bounds code i (bounds_at code index)) in
    ap (λ b. not (pushed && b))
    (list_all-same (λ nest. cost_fits (region code t nest (suc index)))
    (λ nest. cost_fits (region code u nest (suc index))) (judged_nests (flow i) (t index).nest)
    (λ nest. ap cost_fits (region-same code t u same nest (suc index) (omega (arith, lt)))))
    ∙ ap (λ (e : TableEntry). not (pushed && all_fit code u index (judged_nests (flow i) e.nest)))
    (same index (omega (arith, lt)))

pub over-same : (code : StackCode) (t u : ℕ → TableEntry) → IsTable code t → IsTable code u → (index : ℕ) →
    is_over_at code t index ≡ is_over_at code u index
over-same code t u a b index =
    ⊎_elim
    (λ w. ap (is_over code t index) w.2 ∙ (over-some code t u (entry-same code t u a b) index w.0 w.1
    ∙ sym (ap (is_over code u index) w.2)))
    (λ w. ap (is_over code t index) w.1 ∙ sym (ap (is_over code u index) w.1))
    ((slice_get_cases code.instrs index).1)

-- the broken rule is the same by each table
pub broken-same : (code : StackCode) (t u : ℕ → TableEntry) → IsTable code t → IsTable code u → (index : ℕ) →
    broken code t index ≡ broken code u index
broken-same code t u a b index =
    let o = slice_get code.instrs index in
    ⊎_elim
    (λ w.
    ap (λ sources. broken_where code index sources o (t index))
    (sources-same code t u (entry-same code t u a b) index index (omega (arith, w.1)))
    ∙ ap (broken_where code index (nests_to code u index) o) (entry-same code t u a b index (omega (arith, w.1))))
    (λ w.
    ap (λ p. broken_where code index (nests_to code t index) p (t index)) w.1
    ∙ sym (ap (λ p. broken_where code index (nests_to code u index) p (u index)) w.1))
    ((slice_get_cases code.instrs index).1)

pub verdict-same : (code : StackCode) (t u : ℕ → TableEntry) → IsTable code t → IsTable code u → (index : ℕ) →
    verdict code t index ≡ verdict code u index
verdict-same code t u a b index =
    ap (λ o. or_over o (is_over_at code t index)) (broken-same code t u a b index)
    ∙ ap (or_over (broken code u index)) (over-same code t u a b index)
