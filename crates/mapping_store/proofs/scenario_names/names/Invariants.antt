use Rattle.std.proofs.Common.{take, All}
use Rattle.request_journal.specs.State.{Names}
use Rattle.mapping_store.specs.Kept.{placed_of}
use Rattle.mapping_store.proofs.scenario_names.names.Given as goal

abbrev pub invariant-loop-i : goal.invariant-loop-i
invariant-loop-i l = All (λ e. ¬ (Names l.scenario l.state (placed_of e).mapping.spec.scenario)) (take l.i l.entries)
