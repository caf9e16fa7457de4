-- For private clauses: the budgets of several programs while they are added up.
use Rattle.std.specs.Prelude.{◌≡◌, ℕ, ◌+◌, ◌*◌, ◌^◌, ◌≤◌, List, slice_index}
use Rattle.std.specs.List.{AllZip}
use Rattle.mapping_commands.specs.Checking.{IsProgramOf, total_steps, total_bytes}
use Rattle.template_machine.specs.Program.{ProgramParts}
use Rattle.template_tree.specs.Source.{Source}

-- the totals of the programs of these templates
pub record AreTotals (templates : List Source) (steps bytes : List ℕ) : Type 0 where
  pub programs : List ProgramParts
  pub each : AllZip IsProgramOf templates programs
  pub steps_are : steps ≡ total_steps programs
  pub bytes_are : bytes ≡ total_bytes programs

-- each coefficient is a sum of at most so many numbers of 64 bits
abbrev pub IsWithin : ℕ → List ℕ → Type 0
IsWithin count list = (k : ℕ) → slice_index list k ≤ count * 2 ^ 64

-- the coefficients of the new list are sums of one number more
abbrev pub Grows : List ℕ → List ℕ → Type 0
Grows old new = (count : ℕ) → IsWithin count old → IsWithin (count + 1) new
