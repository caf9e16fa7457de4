-- The kinds and the bounds of the slots that the pass keeps.
use Rattle.std.specs.Prelude.{List, map}
use Rattle.code_rules.specs.Bounds.{Bound}
use Rattle.helper_set.specs.declared.kind.Kind.{Kind}
use Rattle.code_verifier.specs.declared.stack.Slot.{Slot}

abbrev pub kinds_of : List Slot → List Kind
kinds_of slots = map (λ s. s.kind) slots

abbrev pub bounds_of : List Slot → List Bound
bounds_of slots = map (λ s. s.bound) slots

-- that bound for each slot that is pushed
abbrev pub bound_each : Bound → List Kind → List Bound
bound_each bound kinds = map (λ k. bound) kinds
