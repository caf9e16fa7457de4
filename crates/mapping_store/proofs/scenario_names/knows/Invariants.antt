use Rattle.std.proofs.Common.{take, All}
use Rattle.request_journal.specs.State.{IsIn}
use Rattle.mapping_store.specs.Kept.{placed_of}
use Rattle.mapping_store.proofs.scenario_names.knows.Given as goal

abbrev pub invariant-loop-i : goal.invariant-loop-i
invariant-loop-i l = All (λ e. ¬ (IsIn l.scenario (placed_of e).mapping.spec.scenario)) (take l.i l.entries)
