use Rattle.std.proofs.Common.{◌≡◌, ◌<◌, length, Some, None, sym, ap, ◌∙◌, rules}
use Rattle.json_bridge.specs.Inner.NextStep.{next_step, step_view, found_view}
use Rattle.json_bridge.proofs.Unique.{found_shorter, steps_onward, steps_back, no_steps}
use Rattle.json_bridge.proofs.json_path.is_steps.Goals as goal

pub returns-in_default : goal.returns-in_default
returns-in_default c =
    let rest = c.loop-rest.rest.now in
    let some : 0 < length rest = search rules in
    let none : next_step rest ≡ None = search rules in
    (λ h. absurd (search rules), λ h. absurd (no_steps rest some none (c.loop-rest.invariant.back h)))

pub loop-rest-smaller : goal.loop-rest-smaller
loop-rest-smaller c =
    let found : next_step c.loop-rest.rest.now ≡ Some (step_view c.in-Some._step, c.in-Some.after.now) =
    sym c.next_step.ensures ∙ ap found_view c.in-Some.is in
    found_shorter c.loop-rest.rest.now c.in-Some.after.now (step_view c.in-Some._step) found

pub loop-rest-preserved : goal.loop-rest-preserved
loop-rest-preserved c =
    let rest = c.loop-rest.rest.now in
    let after = c.in-Some.after.now in
    let step = step_view c.in-Some._step in
    let found : next_step rest ≡ Some (step, after) = sym c.next_step.ensures ∙ ap found_view c.in-Some.is in
    record {
      utf8 = search rules;
      onward = λ h. c.loop-rest.invariant.onward (steps_onward rest after step found h);
      back = λ h. steps_back rest after step found (c.loop-rest.invariant.back h);
    }
