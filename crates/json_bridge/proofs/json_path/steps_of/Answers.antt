use Rattle.std.proofs.Common.{◌≡◌, Some, None, sym, ap, ◌∙◌, rules}
use Rattle.json_bridge.specs.Inner.NextStep.{next_step, step_view, found_view}
use Rattle.json_bridge.proofs.Unique.{found_shorter, begins_pushed, only_these}
use Rattle.json_bridge.proofs.json_path.steps_of.Goals as goal

pub loop-step-smaller : goal.loop-step-smaller
loop-step-smaller c =
    let found : next_step c.loop-step.rest.now ≡ Some (step_view c.in-Some.step, c.in-Some.after.now) =
    sym c.next_step.ensures ∙ ap found_view c.in-Some.is in
    found_shorter c.loop-step.rest.now c.in-Some.after.now (step_view c.in-Some.step) found

pub loop-step-preserved : goal.loop-step-preserved
loop-step-preserved c =
    let l = c.loop-step in
    let after = c.in-Some.after.now in
    let step = step_view c.in-Some.step in
    let found : next_step l.rest.now ≡ Some (step, after) = sym c.next_step.ensures ∙ ap found_view c.in-Some.is in
    record {
      utf8 = search rules;
      begins = begins_pushed c.args.text.now l.rest.now after l.steps.items c.push.new.self.items step
          c.in_ok-to_step.field-0 l.invariant.begins found c.in_ok-to_step.ensures c.in_ok-push.ensures.items;
    }

pub returns : goal.returns
returns c =
    let l = c.loop-step in
    let none : next_step l.rest.now ≡ None = search rules in
    only_these c.args.text.now l.rest.now l.steps.items c.new.result l.invariant.begins none c.new.ensures
