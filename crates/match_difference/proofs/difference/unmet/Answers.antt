use Rattle.std.proofs.Common.{◌≡◌, ◌∙◌, [], Any, ap, arith, length, refl, subst, sym}
use Rattle.std.proofs.lemmas.List.{append-nil}
use Rattle.std.specs.Vec.Iter.{into_iter_items}
use Rattle.match_difference.proofs.UnmetLemmas.{none_left, one_more}
use Rattle.match_difference.specs.Inner.Added.{IsAdded}
use Rattle.match_difference.specs.Refusal.{IsConditionRefusal}
use Rattle.match_difference.specs.Unmet.{AreUnmet}
use Rattle.request_match.proofs.AnyLemmas.{any_there}
use Rattle.scenario_core.specs.Scenarios.{state_of}
use Rattle.match_difference.proofs.difference.unmet.Goals as goal

pub loop-condition-preserved : goal.loop-condition-preserved
loop-condition-preserved c =
    let l = c.loop-condition in
    let x = c.in-Some.condition in
    let rest = into_iter_items c.next.new.self in
    let states = state_of c.args.scenarios.now in
    let old = l.list.items in
    let new = c.add_unmet.new.list.items in
    let steps = c.in-Some.ensures.steps in
    record {
      counted = omega (arith, l.invariant.counted, steps.1, ap length steps.0);
      same = c.in_ok-add_unmet.ensures.same_request ∙ l.invariant.same;
      found = one_more states c.args.request.now c.args.conditions.items (into_iter_items l.condition-iterator) rest x
          old new steps.0
          (subst (λ r. IsAdded states r x old new) l.invariant.same c.in_ok-add_unmet.ensures.added)
          l.invariant.found;
      refused = λ error any. l.invariant.refused error
          (subst (Any (λ c. IsConditionRefusal c error)) (sym steps.0)
          (any_there (λ c. IsConditionRefusal c error) x rest any));
    }

pub returns-clause-unmet : goal.returns-clause-unmet
returns-clause-unmet c =
    let l = c.loop-condition in
    let left = none_left (into_iter_items l.condition-iterator)
    (sym l.invariant.counted ∙ c.in-None.ensures.steps.0) in
    subst (AreUnmet (state_of c.args.scenarios.now) c.args.request.now c.args.conditions.items)
    (append-nil l.list.items)
    (l.invariant.found []
    (subst (λ cs. AreUnmet (state_of c.args.scenarios.now) c.args.request.now cs []) (sym left) refl))
