-- The rules V1 to V12, at each instruction.
use Rattle.std.specs.Prelude.{ℕ, zero, suc, nat_lt, nat_eq, Bool, true, false, not, ◌&&◌, ◌||◌, if◌then◌else◌, List, []}
use Rattle.std.specs.Prelude.{◌∷◌, length, drop, map, Option, Some, None, slice_get, option_and_then}
use Rattle.std.specs.Option.{option_map_or}
use Rattle.std.specs.List.{list_any, list_all}
use lib.Pointwise.{pointwise}
use Rattle.helper_set.specs.Values.{same_kind}
use Rattle.helper_set.specs.declared.kind.Kind.{Kind}
use Rattle.template_code.specs.Code.{StackCode}
use Rattle.template_code.specs.Instructions.{flow, target_of, requires_empty_stack, is_misplaced, names_entries}
use Rattle.template_code.specs.Instructions.{loop_named, pops, pushes, slots_after}
use Rattle.template_code.specs.declared.flow.Flow.{Flow}
use Rattle.template_code.specs.declared.instr.Instr.{Instr}
use Rattle.template_code.specs.declared.limits.TheConstants.{MAX_INSTRUCTIONS, MAX_SLOTS, MAX_LOOPS}
use Rattle.code_rules.specs.Costs.{is_empty}
use Rattle.code_rules.specs.Table.{TableEntry, nest_after}
use Rattle.code_rules.specs.declared.rule.Rule.{Rule}
use Rattle.code_rules.specs.declared.rule.Rule.TheVariants.{V1, V2, V3, V4, V5, V6, V7, V8, V9, V10, V11, V12}

-- the target of a jump is a later instruction of the code
abbrev pub is_valid_target : StackCode → ℕ → ℕ → Bool
is_valid_target code index target = nat_lt index target && nat_lt target (length code.instrs)

abbrev pub has_invalid_target : StackCode → ℕ → Option ℕ → Bool
has_invalid_target code index target = option_map_or (λ t. not (is_valid_target code index t)) target false

abbrev pub is_target : Option ℕ → ℕ → Bool
is_target target index = option_map_or (λ t. nat_eq t index) target false

-- the instruction jumps to that index
abbrev pub jumps : Option Instr → ℕ → Bool
jumps instr target = is_target (option_and_then (λ i. target_of (flow i)) instr) target

-- the indices, below the first number, of the instructions that jump to the second, the last first
abbrev pub jumps_among : StackCode → ℕ → ℕ → List ℕ
jumps_among code zero target = []
jumps_among code (suc index) target =
    if jumps (slice_get code.instrs index) target then index ∷ jumps_among code index target
    else jumps_among code index target

-- the nests of the earlier instructions that jump to one, that of an `Each` being the one round its loop; no later one
-- has a valid target there
abbrev pub nests_to : StackCode → (ℕ → TableEntry) → ℕ → List (List ℕ)
nests_to code table index = map (λ source. (table source).nest) (jumps_among code index index)

abbrev pub same_nest : List ℕ → List ℕ → Bool
same_nest = pointwise nat_eq

-- there are fewer slots than the instruction pops
abbrev pub lacks_slots : List (List Kind) → List Kind → Bool
lacks_slots [] kinds = false
lacks_slots (p ∷ ps) [] = true
lacks_slots (p ∷ ps) (k ∷ kinds) = lacks_slots ps kinds

-- the slots that are popped, as far as they are there, have accepted kinds
abbrev pub kinds_fit : List (List Kind) → List Kind → Bool
kinds_fit (p ∷ ps) (k ∷ kinds) = list_any (same_kind k) p && kinds_fit ps kinds
kinds_fit ps kinds = true

-- a jump comes from one of these nests, and the stack isn't empty
abbrev pub target_has_slots : List (List ℕ) → List Kind → Bool
target_has_slots sources kinds = not (is_empty sources) && not (is_empty kinds)

abbrev pub leaves_slots : Instr → List Kind → Bool
leaves_slots i kinds = requires_empty_stack (flow i) && not (is_empty (drop (length (pops i)) kinds))

-- it doesn't close the innermost loop by going back to the instruction after its `Each`, or it ends in a loop
abbrev pub closes_wrongly : Flow → List ℕ → Bool
closes_wrongly (Flow.Close a) [] = true
closes_wrongly (Flow.Close a) (opener ∷ nest) = not (nat_eq a (suc opener))
closes_wrongly Flow.End nest = not (is_empty nest)
closes_wrongly f nest = false

-- the loop that it names isn't one of that many open ones
abbrev pub lacks_loop : Option ℕ → ℕ → Bool
lacks_loop named count = option_map_or (λ k. not (nat_lt k count)) named false

-- the first of the rules up to V12 that an instruction with that index and that entry breaks, to which jumps from these
-- nests go
abbrev pub broken_by : StackCode → ℕ → List (List ℕ) → Instr → TableEntry → Option Rule
broken_by code index sources i e =
    if nat_eq index MAX_INSTRUCTIONS then Some V1
    else if not (names_entries code i) then Some V2
    else if has_invalid_target code index (target_of (flow i)) then Some V3
    else if not (list_all (same_nest e.nest) sources) then Some V4
    else if lacks_slots (pops i) e.kinds then Some V5
    else if not (kinds_fit (pops i) e.kinds) then Some V6
    else if nat_lt MAX_SLOTS (length (slots_after i (pushes i) e.kinds)) then Some V7
    else if target_has_slots sources e.kinds || leaves_slots i e.kinds then Some V8
    else if nat_lt MAX_LOOPS (length (nest_after (flow i) index e.nest)) then Some V9
    else if closes_wrongly (flow i) e.nest then Some V10
    else if lacks_loop (loop_named i) (length e.nest) then Some V11
    else if is_misplaced (flow i) (nat_eq (suc index) (length code.instrs)) then Some V12
    else None

-- empty code breaks V1 at index 0; there is nothing else to judge at an index without an instruction
abbrev pub broken_beyond : List Instr → ℕ → Option Rule
broken_beyond [] zero = Some V1
broken_beyond is index = None

abbrev pub broken_where : StackCode → ℕ → List (List ℕ) → Option Instr → TableEntry → Option Rule
broken_where code index sources instr e =
    option_map_or (λ i. broken_by code index sources i e) instr (broken_beyond code.instrs index)

-- the first of the rules up to V12 that is broken at an index, by a table
abbrev pub broken : StackCode → (ℕ → TableEntry) → ℕ → Option Rule
broken code table index =
    broken_where code index (nests_to code table index) (slice_get code.instrs index) (table index)
