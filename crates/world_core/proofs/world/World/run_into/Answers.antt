use Rattle.std.proofs.Common.{[], ◌∷◌, ◌++◌, List, Option, length, sym, ap, subst, ◌∙◌, arith, rules, append_assoc}
use Rattle.std.specs.Vec.Iter.{into_iter_items}
use Rattle.mapping_model.specs.declared.reply.Reply.{Reply}
use Rattle.world_core.specs.Schedule.{IsStopped, Runs}
use Rattle.world_core.specs.declared.step.Step.{Step}
use Rattle.world_core.proofs.Runs.{runs_none, runs_on, stopped}
use Rattle.world_core.proofs.StepLemmas.{on_err}
use Rattle.world_core.proofs.world.World.run_into.Goals as goal

pub loop-step-init : goal.loop-step-init
loop-step-init c = record {
  counted = search rules;
  whole = search rules;
  runs = subst (λ (rs : List (Option Reply)). Runs c.args.self.now [] rs c.args.self.now) (sym c.requires)
      (runs_none c.args.self.now);
}

pub loop-step-preserved : goal.loop-step-preserved
loop-step-preserved c =
    let l = c.loop-step in
    let step = c.in-Some.step in
    let steps = c.in-Some.ensures.steps in
    let ok = c.in_ok-step_into.ensures.ok in
    let new = c.step_into.new.self in
    record {
      counted = omega (arith, l.invariant.counted, steps.1, ap length steps.0);
      whole = l.invariant.whole ∙ ap (λ (ss : List Step). l.yielded ++ ss) steps.0
          ∙ sym (append_assoc l.yielded (step ∷ []) (into_iter_items c.next.new.self));
      runs = subst (λ (rs : List (Option Reply)). Runs c.args.self.now (l.yielded ++ step ∷ []) rs new) (sym ok.3)
          (runs_on c.args.self.now l.self new l.yielded l.replies.items step ok.1 ok.0 l.invariant.runs ok.2);
    }

pub returns-in_err-step_into-clause-err : goal.returns-in_err-step_into-clause-err
returns-in_err-step_into-clause-err c =
    let l = c.loop-step in
    let step = c.in-Some.step in
    let rest = into_iter_items c.next.new.self in
    let err = c.in_err-step_into.ensures.err in
    let new = c.step_into.new.self in
    let whole = l.invariant.whole ∙ ap (λ (ss : List Step). l.yielded ++ ss) c.in-Some.ensures.steps.0 in
    on_err c.from_residual.result _
    (subst (λ (rs : List (Option Reply)). IsStopped c.args.self.now c.args.steps.items (length rs) new) (sym err.1)
    (stopped c.args.self.now l.self new c.args.steps.items l.yielded rest step l.replies.items whole
    l.invariant.runs err.0))
