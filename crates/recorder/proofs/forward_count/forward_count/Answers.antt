use Rattle.std.proofs.Common.{◌+◌, ◌<◌, drop, [], length, sym, ap, ◌∙◌, arith, if◌then◌else◌}
use Rattle.std.proofs.lemmas.Option.{slice_get-get_or}
use Rattle.mock_request.specs.Request.{Header}
use Rattle.recorder.specs.ForwardCount.{count_of, forward_count}
use Rattle.recorder.proofs.ConnectionLemmas.{drop_here}
use Rattle.recorder.proofs.forward_count.forward_count.Goals as goal
use Rattle.recorder.proofs.forward_count.forward_count.Goals.{in-Some+else-eq, in_default}

pub returns-then-eq-clause-value : goal.returns-then-eq-clause-value
returns-then-eq-clause-value c =
    let headers = c.args.request.now.headers in
    let i = c.loop-index.index in
    let within : i < length headers = omega arith in
    let header : Header = record { name = c.in-Some.name.now; value = c.in-Some.value.now } in
    c.count_of.ensures.value
    ∙ sym (ap (λ b. if b then count_of header.value else forward_count (drop (i + 1) headers))
    (sym c.eq.ensures ∙ c.if-eq.true))
    ∙ sym (ap forward_count (drop_here headers i header within c.in-Some.ensures.value))
    ∙ c.loop-index.invariant

pub loop-index-preserved : goal.loop-index-preserved
loop-index-preserved c =
    let headers = c.args.request.now.headers in
    let i = c.loop-index.index in
    let within : i < length headers = omega arith in
    elim c.match-header.branch [
      | in-Some+else-eq w ↦
          let header : Header = record { name = w.in-Some.name.now; value = w.in-Some.value.now } in
          sym (ap (λ b. if b then count_of header.value else forward_count (drop (i + 1) headers))
          (sym w.eq.ensures ∙ w.if-eq.false))
          ∙ sym (ap forward_count (drop_here headers i header within w.in-Some.ensures.value))
          ∙ c.loop-index.invariant
      | in_default w ↦
          let here = slice_get-get_or headers i (record { name = []; value = [] }) within in
          let none = w.in_default.ensures.value in
          absurd (cc)
    ]
