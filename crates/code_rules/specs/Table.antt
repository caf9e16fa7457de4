-- The table of code: for each instruction the loops that it is in, and the kinds of the slots before it.
use Rattle.std.specs.Prelude.{◌≡◌, ℕ, zero, suc, List, [], ◌∷◌, drop, Option, Some, slice_get}
use Rattle.std.specs.Option.{option_map_or}
use Rattle.helper_set.specs.declared.kind.Kind.{Kind}
use Rattle.template_code.specs.Code.{StackCode}
use Rattle.template_code.specs.Instructions.{flow, pushes, slots_after}
use Rattle.template_code.specs.declared.flow.Flow.{Flow}
use Rattle.template_code.specs.declared.instr.Instr.{Instr}

-- the indices of the `Each` of the open loops, the innermost first, and the kinds of the slots, the top first
pub record TableEntry : Type 0 where
  pub nest : List ℕ
  pub kinds : List Kind

-- no loop and no slot
abbrev pub blank : TableEntry
blank = record { nest = []; kinds = [] }

abbrev pub nest_after : Flow → ℕ → List ℕ → List ℕ
nest_after (Flow.Open a) index nest = index ∷ nest
nest_after (Flow.Close a) index nest = drop 1 nest
nest_after f index nest = nest

-- the entry of the instruction after that with this index, reached or not
abbrev pub entry_after : ℕ → Instr → TableEntry → TableEntry
entry_after index i e = record {
  nest = nest_after (flow i) index e.nest;
  kinds = slots_after i (pushes i) e.kinds;
}

-- the table has the entries that the instructions give
pub record IsTable (code : StackCode) (table : ℕ → TableEntry) : Type 0 where
  pub start : table 0 ≡ blank
  pub next :
      (index : ℕ) (i : Instr) → slice_get code.instrs index ≡ Some i →
      table (suc index) ≡ entry_after index i (table index)

abbrev pub entry_next : ℕ → Option Instr → TableEntry → TableEntry
entry_next index instr e = option_map_or (λ i. entry_after index i e) instr e

-- the entries of the code's table: a law says that it is one, and that there is no other
abbrev pub entry_at : StackCode → ℕ → TableEntry
entry_at code zero = blank
entry_at code (suc index) = entry_next index (slice_get code.instrs index) (entry_at code index)
