-- Rule V13, and which code is well formed, which is accepted, and which violation of other code is reported.
use Rattle.std.specs.Prelude.{◌≡◌, ℕ, suc, ◌<◌, Bool, true, false, not, ◌&&◌, List, [], ◌∷◌, drop}
use Rattle.std.specs.Prelude.{Option, Some, None, slice_get}
use Rattle.std.specs.List.{list_all}
use Rattle.template_code.specs.Code.{StackCode}
use Rattle.template_code.specs.Instructions.{flow}
use Rattle.template_code.specs.declared.flow.Flow.{Flow}
use Rattle.template_code.specs.declared.instr.Instr.{Instr}
use Rattle.code_rules.specs.Bounds.{bound_fits}
use Rattle.code_rules.specs.Costs.{pushed_bounds, bounds_at, cost_fits}
use Rattle.code_rules.specs.Table.{TableEntry, IsTable, entry_at}
use Rattle.code_rules.specs.Rules.{broken}
use Rattle.code_rules.specs.Regions.{region}
use Rattle.code_rules.specs.declared.rule.Rule.{Rule}
use Rattle.code_rules.specs.declared.rule.Rule.TheVariants.{V13}

-- the code has a table by which no rule up to V12 is broken
pub record IsWellFormed (code : StackCode) : Type 0 where
  pub table : ℕ → TableEntry
  pub follows : IsTable code table
  pub unbroken : (index : ℕ) → broken code table index ≡ None

-- the nests whose regions are judged at an instruction: its own, and where a loop closes also the one round it
abbrev pub judged_nests : Flow → List ℕ → List (List ℕ)
judged_nests (Flow.Close a) nest = nest ∷ drop 1 nest ∷ []
judged_nests f nest = nest ∷ []

-- the bound of a slot that the instruction pushes, or the cost up to and with it of a region that is judged there,
-- has a coefficient that is too large
abbrev pub is_over : StackCode → (ℕ → TableEntry) → ℕ → Option Instr → Bool
is_over code table index None = false
is_over code table index (Some i) =
    not (list_all bound_fits (pushed_bounds code i (bounds_at code index))
    && list_all (λ nest. cost_fits (region code table nest (suc index))) (judged_nests (flow i) (table index).nest))

abbrev pub is_over_at : StackCode → (ℕ → TableEntry) → ℕ → Bool
is_over_at code table index = is_over code table index (slice_get code.instrs index)

-- no bound and no cost has a coefficient that is too large
abbrev pub IsWithinLimits : StackCode → Type 0
IsWithinLimits code = (index : ℕ) → is_over_at code (entry_at code) index ≡ false

abbrev pub or_over : Option Rule → Bool → Option Rule
or_over (Some rule) over = Some rule
or_over None true = Some V13
or_over None false = None

-- the first of all rules that is broken at an index, by a table
abbrev pub verdict : StackCode → (ℕ → TableEntry) → ℕ → Option Rule
verdict code table index = or_over (broken code table index) (is_over_at code table index)

-- the first index at which a rule is broken, and the first rule that is broken there
pub record IsViolation (code : StackCode) (index : ℕ) (rule : Rule) : Type 0 where
  pub table : ℕ → TableEntry
  pub follows : IsTable code table
  pub before : (earlier : ℕ) → earlier < index → verdict code table earlier ≡ None
  pub here : verdict code table index ≡ Some rule
