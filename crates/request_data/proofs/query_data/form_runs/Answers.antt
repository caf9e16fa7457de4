use Rattle.std.proofs.Common.{◌≡◌, ◌∷◌, rules, sym, ◌∙◌}
use Rattle.form_urlencoded.specs.Form.{raw_pairs}
use Rattle.form_urlencoded.specs.Parse.{raw_pairs_left}
use Rattle.mock_request.proofs.QueryLemmas.{texts_left, texts_of_form}
use Rattle.request_data.specs.Inner.Runs.{pairs_of_runs}
use Rattle.request_data.proofs.RunLemmas.{HasRead, another_name, value_more, none_left}
use Rattle.request_data.proofs.query_data.form_runs.Goals as goal
use Rattle.request_data.proofs.query_data.form_runs.Goals.{then-ne+in_ok-values-2, else-ne}

pub loop-name-preserved : goal.loop-name-preserved
loop-name-preserved c =
    let was = c.loop-name in
    let now = c.if-ne in
    let left = raw_pairs_left was.name-iterator in
    let whole = texts_left (raw_pairs c.args.form.now) in
    let next : left ≡ (c.in-Some.name.now, c.in-Some.value.now) ∷ raw_pairs_left c.next.new.self =
    c.in-Some.ensures.steps in
    let same : c.in-Some.name.now ≡ now.last.now =
    elim now.branch [ then-ne+in_ok-values-2 w ↦ search rules | else-ne w ↦ search rules ] in
    let at : HasRead (pairs_of_runs now.runs) now.last.now now.values left whole =
    elim now.branch [
      | then-ne+in_ok-values-2 w ↦
          another_name (pairs_of_runs was.runs) (pairs_of_runs now.runs) was.last.now now.last.now
          was.values now.values left whole was.invariant (search rules) (search rules)
      | else-ne w ↦ search rules
    ] in
    value_more (pairs_of_runs now.runs) now.last.now now.values c.push.new.self
    c.in_ok-decoded.field-0 c.in-Some.name.now c.in-Some.value.now left _ whole at next same
    c.in_ok-decoded.ensures (search rules)

pub returns : goal.returns
returns c =
    none_left (pairs_of_runs c.loop-name.runs) (pairs_of_runs c.push_run-2.new.runs)
    c.loop-name.last.now c.loop-name.values (raw_pairs_left c.loop-name.name-iterator)
    (texts_left (raw_pairs c.args.form.now)) c.loop-name.invariant c.in-None.ensures.steps.0 (search rules)
    ∙ sym (texts_of_form c.args.form.now)
