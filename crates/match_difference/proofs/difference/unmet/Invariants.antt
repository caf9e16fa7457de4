use Rattle.std.proofs.Common.{◌≡◌, Any, length}
use Rattle.std.specs.Vec.Iter.{into_iter_items, into_iter_len}
use Rattle.match_difference.proofs.UnmetLemmas.{Unmet_from}
use Rattle.match_difference.specs.Refusal.{IsConditionRefusal}
use Rattle.request_match.specs.declared.error.RequestMatchError.{RequestMatchError}
use Rattle.scenario_core.specs.Scenarios.{state_of}
use Rattle.match_difference.proofs.difference.unmet.Given as goal

abbrev pub invariant-loop-condition : goal.invariant-loop-condition
invariant-loop-condition l = record {
  counted : into_iter_len l.condition-iterator ≡ length (into_iter_items l.condition-iterator);
  same : l.request ≡ l.fn.request;
  found : Unmet_from (state_of l.scenarios) l.fn.request l.fn.conditions.items
      l.list.items (into_iter_items l.condition-iterator);
  refused : (error : RequestMatchError)
      → Any (λ c. IsConditionRefusal c error) (into_iter_items l.condition-iterator)
      → Any (λ c. IsConditionRefusal c error) l.fn.conditions.items;
}
