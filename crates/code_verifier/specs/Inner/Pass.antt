-- What the pass finds at one instruction, and what it keeps after it.
use Rattle.std.specs.Prelude.{ℕ, suc, nat_eq, nat_lt, Bool, not, ◌&&◌, ◌||◌, if◌then◌else◌, List, []}
use Rattle.std.specs.Prelude.{◌∷◌, length, drop, map, Option, Some, None}
use Rattle.helper_set.specs.declared.kind.Kind.{Kind}
use Rattle.template_code.specs.Code.{StackCode}
use Rattle.template_code.specs.Instructions.{flow, target_of, is_misplaced, names_entries, loop_named, pops, pushes}
use Rattle.template_code.specs.Instructions.{slots_after}
use Rattle.template_code.specs.declared.flow.Flow.{Flow}
use Rattle.template_code.specs.declared.instr.Instr.{Instr}
use Rattle.template_code.specs.declared.limits.TheConstants.{MAX_INSTRUCTIONS, MAX_SLOTS, MAX_LOOPS}
use Rattle.code_rules.specs.Bounds.{bound_fits}
use Rattle.code_rules.specs.Costs.{Cost, no_cost, plus_cost, cost_fits, cost_of_turns, cost, is_empty, top}
use Rattle.code_rules.specs.Costs.{pushed_bounds}
use Rattle.code_rules.specs.Rules.{has_invalid_target, lacks_slots, kinds_fit, leaves_slots, closes_wrongly, lacks_loop}
use Rattle.code_rules.specs.Table.{nest_after}
use Rattle.code_rules.specs.Verdict.{or_over}
use Rattle.code_rules.specs.declared.rule.Rule.{Rule}
use Rattle.code_rules.specs.declared.rule.Rule.TheVariants.{V1, V2, V3, V4, V5, V6, V7, V8, V9, V10, V11, V12}
use Rattle.code_verifier.specs.Inner.Marks.{innermost, agrees, is_marked}
use Rattle.code_verifier.specs.Inner.Slots.{kinds_of, bounds_of}
use Rattle.code_verifier.specs.declared.loops.OpenLoop.{OpenLoop}
use Rattle.code_verifier.specs.declared.stack.Slot.{Slot}
use Rattle.code_verifier.specs.declared.targets.Mark.{Mark}

abbrev pub nest_of : List OpenLoop → List ℕ
nest_of loops = map (λ l. l.opener) loops

-- the first rule up to V12 that an instruction with that index breaks, by the nest and the kinds of the slots, by
-- whether all jumps to it are in its loop, and by whether there is a jump
abbrev pub broken_parts : StackCode → ℕ → Instr → List ℕ → List Kind → Bool → Bool → Option Rule
broken_parts code index i nest kinds same_loops marked =
    if nat_eq index MAX_INSTRUCTIONS then Some V1
    else if not (names_entries code i) then Some V2
    else if has_invalid_target code index (target_of (flow i)) then Some V3
    else if not same_loops then Some V4
    else if lacks_slots (pops i) kinds then Some V5
    else if not (kinds_fit (pops i) kinds) then Some V6
    else if nat_lt MAX_SLOTS (length (slots_after i (pushes i) kinds)) then Some V7
    else if (marked && not (is_empty kinds)) || leaves_slots i kinds then Some V8
    else if nat_lt MAX_LOOPS (length (nest_after (flow i) index nest)) then Some V9
    else if closes_wrongly (flow i) nest then Some V10
    else if lacks_loop (loop_named i) (length nest) then Some V11
    else if is_misplaced (flow i) (nat_eq (suc index) (length code.instrs)) then Some V12
    else None

-- the same, by the mark, the open loops and the slots
abbrev pub broken_seen : StackCode → ℕ → Instr → Mark → List OpenLoop → List Slot → Option Rule
broken_seen code index i mark loops slots =
    broken_parts code index i (nest_of loops) (kinds_of slots)
    (agrees (innermost (nest_of loops)) mark) (is_marked mark)

-- a loop that opens at the next instruction goes over a part of an item
abbrev pub takes_part : List Slot → Bool
takes_part slots = not (is_empty (top (bounds_of slots)).per)

-- the open loops after an instruction with that index and that way on, up to and with which their region costs that
abbrev pub loops_after : Flow → ℕ → Bool → Cost → List OpenLoop → List OpenLoop
loops_after (Flow.Open a) index is_part own loops =
    record { opener = index; is_part = is_part; before = own } ∷ loops
loops_after (Flow.Close a) index is_part own loops = drop 1 loops
loops_after f index is_part own loops = loops

-- the cost of the region that a closed loop is in
abbrev pub cost_round : List OpenLoop → Cost → Cost
cost_round [] own = own
cost_round (l ∷ loops) own = plus_cost l.before (cost_of_turns l.is_part own)

-- the cost so far of the region of the next instruction
abbrev pub cost_after : Flow → List OpenLoop → Cost → Cost
cost_after (Flow.Open a) loops own = no_cost
cost_after (Flow.Close a) loops own = cost_round loops own
cost_after f loops own = own

-- the cost of a region with one more instruction
abbrev pub own_cost : StackCode → Instr → List Slot → Cost → Cost
own_cost code i slots spent = plus_cost spent (cost code i (bounds_of slots))

-- no coefficient is too large after the instruction
abbrev pub all_fits : StackCode → Instr → List OpenLoop → List Slot → Cost → Bool
all_fits code i loops slots spent =
    bound_fits (top (pushed_bounds code i (bounds_of slots)))
    && (cost_fits (own_cost code i slots spent)
    && cost_fits (cost_after (flow i) loops (own_cost code i slots spent)))

-- the first rule that an instruction breaks
abbrev pub judged : StackCode → ℕ → Instr → Mark → List OpenLoop → List Slot → Cost → Option Rule
judged code index i mark loops slots spent =
    or_over (broken_seen code index i mark loops slots) (not (all_fits code i loops slots spent))
