-- The cost of regions, and the budget of code. All of the code is a region, and so is each loop, from after its
-- `Each` up to and with its `Next`. Its instructions cost what they do once, whether a run passes them or not, and
-- those of a loop in it once for each turn.
use Rattle.std.specs.Prelude.{ℕ, zero, suc, if◌then◌else◌, List, [], ◌∷◌, length}
use Rattle.template_code.specs.Code.{StackCode}
use Rattle.code_rules.specs.Polynomial.{Polynomial}
use Rattle.code_rules.specs.Costs.{goes_over_part, Cost, no_cost, plus_cost, cost_of_turns, cost_at}
use Rattle.code_rules.specs.Table.{TableEntry, entry_at}
use Rattle.code_rules.specs.Rules.{same_nest}

-- what an instruction costs in the region of a nest, given the nest that it stands in and its cost: its cost, once for
-- each turn of each loop between the two; nothing, where it isn't in the region
abbrev pub share : StackCode → List ℕ → List ℕ → Cost → Cost
share code outer [] c = if same_nest outer [] then c else no_cost
share code outer (opener ∷ nest) c =
    if same_nest outer (opener ∷ nest) then c
    else share code outer nest (cost_of_turns (goes_over_part code opener) c)

-- the cost of the region of a nest, of the instructions before an index
abbrev pub region : StackCode → (ℕ → TableEntry) → List ℕ → ℕ → Cost
region code table nest zero = no_cost
region code table nest (suc index) =
    plus_cost (region code table nest index) (share code nest (table index).nest (cost_at code index))

pub record Budget : Type 0 where
  pub steps : Polynomial
  pub bytes : Polynomial

-- the cost of all of the code; outside of the loops there is no item
abbrev pub without_item : Cost → Budget
without_item c = record { steps = c.steps.alone; bytes = c.bytes.alone }

abbrev pub budget : StackCode → Budget
budget code = without_item (region code (entry_at code) [] (length code.instrs))
