-- The lengths of what the slots print as, at most, and the cost of each instruction: the steps that it takes and the
-- bytes that it writes, at most.
use Rattle.std.specs.Prelude.{ℕ, zero, suc, Bool, not, ◌&&◌, List, [], ◌∷◌, length, slice_get, unwrap_or, take}
use Rattle.std.specs.Option.{option_map_or}
use Rattle.helper_set.specs.Helpers.{argument_kinds, result_kind, signature_of}
use Rattle.helper_set.specs.declared.helper.Helper.{Helper}
use Rattle.helper_set.specs.declared.kind.Kind.{Kind}
use Rattle.helper_set.specs.declared.limits.TheConstants.{MAX_NUMBER_LENGTH, MAX_TRUTH_LENGTH}
use Rattle.helper_set.specs.declared.signature.Growth.{Growth}
use Rattle.template_code.specs.Code.{StackCode}
use Rattle.template_code.specs.Instructions.{slots_after}
use Rattle.template_code.specs.declared.instr.Instr.{Instr}
use Rattle.template_code.specs.declared.instr.Instr.TheVariants.{Emit, Root, Item, Index, Key, First, Last, Text}
use Rattle.template_code.specs.declared.instr.Instr.TheVariants.{Number, Truth, Show, Test, Call, Escape, Print}
use Rattle.template_code.specs.declared.limits.TheConstants.{MAX_ESCAPE_GROWTH}
use Rattle.code_rules.specs.Bounds.{Bound, at_most, all_data, item_data, plus_bound, times_bound, sum_of, bound_fits}
use Rattle.code_rules.specs.Bounds.{of_turns}

abbrev pub is_empty : {A : Type 0} → List A → Bool
is_empty [] = Bool.true
is_empty (x ∷ xs) = Bool.false

-- the first bound of a list, that of the top of the stack
abbrev pub top : List Bound → Bound
top [] = at_most 0
top (b ∷ bs) = b

abbrev pub text_bound : StackCode → ℕ → Bound
text_bound code t = at_most (length (unwrap_or (slice_get code.texts t) []))

-- what data prints as is within the size of all data; another result grows from its arguments
abbrev pub bound_by : Kind → Growth → List Bound → Bound
bound_by Kind.Data growth arguments = all_data
bound_by kind growth arguments = plus_bound (times_bound growth.times (sum_of arguments)) (at_most growth.plus)

-- the bound of a helper's result, given those of the stack, whose first ones are those of its arguments, the last
-- argument first
abbrev pub helper_bound : Helper → List Bound → Bound
helper_bound h bounds =
    bound_by (result_kind h) (signature_of h).growth (take (length (argument_kinds h)) bounds)

-- for each slot that is pushed, the top first, the length of the text that it prints as, at most, given the bounds of
-- the stack: what `Item 0` finds is a part of the item
abbrev pub pushed_bounds : StackCode → Instr → List Bound → List Bound
pushed_bounds code (Root p) bounds = all_data ∷ []
pushed_bounds code (Item zero p) bounds = item_data ∷ []
pushed_bounds code (Item (suc k) p) bounds = all_data ∷ []
pushed_bounds code (Index k) bounds = at_most MAX_NUMBER_LENGTH ∷ []
pushed_bounds code (Key k) bounds = all_data ∷ []
pushed_bounds code (First k) bounds = at_most MAX_TRUTH_LENGTH ∷ []
pushed_bounds code (Last k) bounds = at_most MAX_TRUTH_LENGTH ∷ []
pushed_bounds code (Text t) bounds = text_bound code t ∷ []
pushed_bounds code (Number n) bounds = at_most MAX_NUMBER_LENGTH ∷ []
pushed_bounds code (Truth b) bounds = at_most MAX_TRUTH_LENGTH ∷ []
pushed_bounds code Show bounds = top bounds ∷ []
pushed_bounds code Test bounds = at_most MAX_TRUTH_LENGTH ∷ []
pushed_bounds code (Call h) bounds = helper_bound h bounds ∷ []
pushed_bounds code Escape bounds = times_bound MAX_ESCAPE_GROWTH (top bounds) ∷ []
pushed_bounds code i bounds = []

abbrev pub bounds_after : StackCode → Instr → List Bound → List Bound
bounds_after code i bounds = slots_after i (pushed_bounds code i bounds) bounds

-- the bounds of the stack after these instructions, whether a run passes them or not
abbrev pub bounds_along : StackCode → List Instr → List Bound → List Bound
bounds_along code [] bounds = bounds
bounds_along code (i ∷ is) bounds = bounds_along code is (bounds_after code i bounds)

-- the bounds of the stack before the instruction with that index
abbrev pub bounds_at : StackCode → ℕ → List Bound
bounds_at code index = bounds_along code (take index code.instrs) []

-- the loop that opens there goes over a part of the item round it: over what `Item 0` found
abbrev pub goes_over_part : StackCode → ℕ → Bool
goes_over_part code opener = not (is_empty (top (bounds_at code opener)).per)

pub record Cost : Type 0 where
  pub steps : Bound
  pub bytes : Bound

abbrev pub no_cost : Cost
no_cost = record { steps = at_most 0; bytes = at_most 0 }

abbrev pub plus_cost : Cost → Cost → Cost
plus_cost c d = record { steps = plus_bound c.steps d.steps; bytes = plus_bound c.bytes d.bytes }

abbrev pub cost_fits : Cost → Bool
cost_fits c = bound_fits c.steps && bound_fits c.bytes

abbrev pub cost_of_turns : Bool → Cost → Cost
cost_of_turns is_part c = record { steps = of_turns is_part c.steps; bytes = of_turns is_part c.bytes }

-- the number of bytes that an instruction writes, at most
abbrev pub written_bound : StackCode → Instr → List Bound → Bound
written_bound code (Emit t) bounds = text_bound code t
written_bound code Print bounds = top bounds
written_bound code i bounds = at_most 0

abbrev pub cost : StackCode → Instr → List Bound → Cost
cost code i bounds = record { steps = at_most 1; bytes = written_bound code i bounds }

abbrev pub cost_at : StackCode → ℕ → Cost
cost_at code index = option_map_or (λ i. cost code i (bounds_at code index)) (slice_get code.instrs index) no_cost
