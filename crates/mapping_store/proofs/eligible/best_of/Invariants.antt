use Rattle.std.proofs.Common.{◌≡◌}
use Rattle.std.specs.List.{AllWithin}
use Rattle.request_journal.specs.Choice.{IsEligible}
use Rattle.scenario_core.specs.Scenarios.{state_of}
use Rattle.mapping_store.specs.Kept.{placed_of}
use Rattle.mapping_store.proofs.eligible.best_of.Given as goal

abbrev pub invariant-loop-i : goal.invariant-loop-i
invariant-loop-i l = record {
  same_entries : l.entries ≡ l.fn.entries;
  same_defaults : l.defaults ≡ l.fn.defaults;
  same_request : l.request ≡ l.fn.request;
  passed : AllWithin (λ e. ¬ (IsEligible (state_of l.scenarios) l.fn.request (placed_of e).mapping))
      l.fn.entries l.start l.i;
}
