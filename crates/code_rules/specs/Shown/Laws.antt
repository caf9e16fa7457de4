-- What holds of all code.
use Rattle.std.specs.Prelude.{◌≡◌, ℕ, zero, suc, ◌<◌, ◌≤◌, false, not, ◌&&◌, ◌⊎◌, List, [], ◌∷◌, ◌++◌, map, length}
use Rattle.std.specs.Prelude.{drop, Some, is_some, slice_get}
use Rattle.data_tree.specs.Tree.{Tree}
use Rattle.helper_set.specs.Values.{Value, kind_of}
use Rattle.template_code.specs.Code.{StackCode}
use Rattle.template_code.specs.Instructions.{flow, target_of, names_entries, loop_named, pops, pushes}
use Rattle.template_code.specs.Machine.{Loop, State, Effect, effect, act}
use Rattle.template_code.specs.declared.flow.Flow.{Flow}
use Rattle.template_code.specs.declared.instr.Instr.{Instr}
use Rattle.template_code.specs.declared.limits.TheConstants.{MAX_INSTRUCTIONS}
use Rattle.code_rules.specs.Polynomial.{Polynomial, ends_in_zero, plus, times_size, value, as_printed}
use Rattle.code_rules.specs.Bounds.{Bound}
use Rattle.code_rules.specs.Costs.{bounds_after, bounds_at, goes_over_part, Cost, no_cost, plus_cost, cost_of_turns}
use Rattle.code_rules.specs.Costs.{cost_at}
use Rattle.code_rules.specs.Table.{TableEntry, IsTable, entry_at}
use Rattle.code_rules.specs.Rules.{lacks_slots, kinds_fit, lacks_loop, broken}
use Rattle.code_rules.specs.Regions.{region, Budget, budget}
use Rattle.code_rules.specs.Verdict.{IsWellFormed, IsWithinLimits, IsViolation}
use Rattle.code_rules.specs.declared.rule.Rule.{Rule}
use Rattle.code_rules.specs.declared.rule.Rule.TheVariants.{V13}

-- code has a table, and all its tables agree on its instructions
abbrev pub EachHasTable : Type 0
EachHasTable = (code : StackCode) → IsTable code (entry_at code)

abbrev pub TableIsOne : Type 0
TableIsOne =
    (code : StackCode) (table : ℕ → TableEntry) → IsTable code table →
    (index : ℕ) → index ≤ length code.instrs → table index ≡ entry_at code index

abbrev pub IsAccepted : StackCode → Type 0
IsAccepted code = IsWellFormed code × IsWithinLimits code

-- code has a violation, or it is accepted
abbrev pub EachIsJudged : Type 0
EachIsJudged = (code : StackCode)
    → ((index : ℕ) × (rule : Rule) × IsViolation code index rule) ⊎ IsAccepted code

abbrev pub NoneIsBoth : Type 0
NoneIsBoth = (code : StackCode) (index : ℕ) (rule : Rule) → IsViolation code index rule → IsAccepted code → ⊥

-- no code has two violations
abbrev pub ViolationIsOne : Type 0
ViolationIsOne =
    (code : StackCode) (p q : ℕ) (r s : Rule) →
    IsViolation code p r → IsViolation code q s → (p ≡ q) × (r ≡ s)

-- by some table one of the rules up to V12 is broken
abbrev pub IsBroken : StackCode → Type 0
IsBroken code =
    (table : ℕ → TableEntry) × IsTable code table
    × ((index : ℕ) × (rule : Rule) × (broken code table index ≡ Some rule))

abbrev pub EachIsFormed : Type 0
EachIsFormed = (code : StackCode) → IsBroken code ⊎ IsWellFormed code

abbrev pub NoneIsBothFormed : Type 0
NoneIsBothFormed = (code : StackCode) → IsBroken code → IsWellFormed code → ⊥

abbrev pub FormedIsLimited : Type 0
FormedIsLimited =
    (code : StackCode) → IsWellFormed code → (1 ≤ length code.instrs) × (length code.instrs ≤ MAX_INSTRUCTIONS)

-- the only violation of well-formed code is that of V13
abbrev pub FormedViolatesV13 : Type 0
FormedViolatesV13 =
    (code : StackCode) (index : ℕ) (rule : Rule) → IsViolation code index rule
    → IsWellFormed code → rule ≡ V13

-- an instruction has an effect exactly where it keeps V2, V11, V5 and V6
abbrev pub EffectsAreRuled : Type 0
EffectsAreRuled =
    (code : StackCode) (root : Tree) (i : Instr) (loops : List Loop) (stack : List Value) →
    is_some (effect code root i loops stack)
    ≡ (names_entries code i && (not (lacks_loop (loop_named i) (length loops))
    && (not (lacks_slots (pops i) (map kind_of stack)) && kinds_fit (pops i) (map kind_of stack))))

-- it pops as many slots as the rules say, and pushes slots of the kinds that they say
abbrev pub EffectsAreKinded : Type 0
EffectsAreKinded =
    (code : StackCode) (root : Tree) (i : Instr) (loops : List Loop) (stack : List Value) (e : Effect) →
    effect code root i loops stack ≡ Some e →
    map kind_of e.stack ≡ pushes i ++ drop (length (pops i)) (map kind_of stack)

-- each instruction but `Halt` has a step exactly where it has an effect
abbrev pub EffectsAreSteps : Type 0
EffectsAreSteps =
    (code : StackCode) (root : Tree) (i : Instr) (s : State) → (flow i ≡ Flow.End → ⊥) →
    is_some (act code root i s) ≡ is_some (effect code root i s.loops s.stack)

-- a jump of well-formed code goes to a later instruction, in the same loops, where there is no slot
abbrev pub JumpsLand : Type 0
JumpsLand =
    (code : StackCode) (well : IsWellFormed code) (index target : ℕ) (i : Instr) →
    slice_get code.instrs index ≡ Some i → target_of (flow i) ≡ Some target →
    (index < target) × (target < length code.instrs)
    × ((well.table target).nest ≡ (well.table index).nest) × ((well.table target).kinds ≡ [])

-- `Next` goes back to the instruction after the `Each` of the innermost loop
abbrev pub LoopsRepeat : Type 0
LoopsRepeat =
    (code : StackCode) (well : IsWellFormed code) (index start : ℕ) (i : Instr) →
    slice_get code.instrs index ≡ Some i → flow i ≡ Flow.Close start →
    (opener : ℕ) × (outer : List ℕ) × ((well.table index).nest ≡ opener ∷ outer) × (start ≡ suc opener)

abbrev pub BoundsFollow : Type 0
BoundsFollow =
    (code : StackCode) (index : ℕ) (i : Instr) → slice_get code.instrs index ≡ Some i →
    bounds_at code (suc index) ≡ bounds_after code i (bounds_at code index)

-- one pass that keeps the cost of each open region has them all: each instruction adds its cost to the innermost,
abbrev pub OwnRegionGrows : Type 0
OwnRegionGrows =
    (code : StackCode) (index : ℕ) →
    region code (entry_at code) (entry_at code index).nest (suc index)
    ≡ plus_cost (region code (entry_at code) (entry_at code index).nest index) (cost_at code index)

-- a loop that opens has cost nothing yet,
abbrev pub RegionOpens : Type 0
RegionOpens =
    (code : StackCode) (index : ℕ) →
    region code (entry_at code) (index ∷ (entry_at code index).nest) (suc index) ≡ no_cost

-- and one that closes adds that of its turns to what the region round it had cost when it opened
abbrev pub RegionCloses : Type 0
RegionCloses =
    (code : StackCode) (index opener : ℕ) (outer : List ℕ) → (entry_at code index).nest ≡ opener ∷ outer →
    region code (entry_at code) outer (suc index)
    ≡ plus_cost (region code (entry_at code) outer (suc opener))
    (cost_of_turns (goes_over_part code opener) (region code (entry_at code) (opener ∷ outer) (suc index)))

-- outside of the loops of well-formed code no cost depends on an item
abbrev pub WholeHasNoItem : Type 0
WholeHasNoItem =
    (code : StackCode) → IsWellFormed code →
    ((region code (entry_at code) [] (length code.instrs)).steps.per ≡ [])
    × ((region code (entry_at code) [] (length code.instrs)).bytes.per ≡ [])

-- so a budget has one list for each of its polynomials
abbrev pub NoneEndsInZero : Type 0
NoneEndsInZero =
    (code : StackCode) → (ends_in_zero (budget code).steps ≡ false) × (ends_in_zero (budget code).bytes ≡ false)

abbrev pub PrintedKeepsValues : Type 0
PrintedKeepsValues = (ps : Polynomial) (n : ℕ) → value (as_printed ps) n ≡ value ps n

-- The budget by the size of all data alone: each item is as large as that, and each loop has as many turns.

abbrev pub coarse : Bound → Polynomial
coarse b = plus b.alone (times_size b.per)

abbrev pub times_size_often : ℕ → Polynomial → Polynomial
times_size_often zero ps = ps
times_size_often (suc k) ps = times_size (times_size_often k ps)

abbrev pub coarse_total : (Cost → Bound) → StackCode → ℕ → Polynomial
coarse_total part code zero = []
coarse_total part code (suc index) =
    plus (coarse_total part code index)
    (times_size_often (length (entry_at code index).nest) (coarse (part (cost_at code index))))

abbrev pub coarse_budget : StackCode → Budget
coarse_budget code = record {
  steps = coarse_total (λ c. c.steps) code (length code.instrs);
  bytes = coarse_total (λ c. c.bytes) code (length code.instrs);
}

-- at each size the budget is at most that
abbrev pub BudgetIsSharper : Type 0
BudgetIsSharper =
    (code : StackCode) (n : ℕ) →
    (value (budget code).steps n ≤ value (coarse_budget code).steps n)
    × (value (budget code).bytes n ≤ value (coarse_budget code).bytes n)
