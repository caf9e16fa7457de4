use Rattle.std.proofs.Common.{◌+◌, ◌<◌, drop, [], length, sym, ap, ◌∙◌, arith}
use Rattle.std.proofs.lemmas.Option.{slice_get-get_or}
use Rattle.std.specs.Prelude.{◌||◌}
use Rattle.mock_request.specs.Request.{Header}
use Rattle.recorder.specs.Connection.{is_named_by_connection}
use Rattle.recorder.proofs.ConnectionLemmas.{drop_here}
use Rattle.recorder.proofs.connection.is_named_by_request.Goals as goal
use Rattle.recorder.proofs.connection.is_named_by_request.Goals.{in-Some+else-is_naming, in_default}

pub returns-then-is_naming : goal.returns-then-is_naming
returns-then-is_naming c =
    let headers = c.args.request.now.headers in
    let name = c.args.name.now in
    let i = c.loop-index.index in
    let within : i < length headers = omega arith in
    let header : Header = record { name = c.in-Some.field.now; value = c.in-Some.value.now } in
    sym (ap (λ b. b || is_named_by_connection (drop (i + 1) headers) name)
    (sym c.is_naming.ensures ∙ c.if-is_naming.true))
    ∙ sym (ap (λ t. is_named_by_connection t name) (drop_here headers i header within c.in-Some.ensures.value))
    ∙ c.loop-index.invariant

pub loop-index-preserved : goal.loop-index-preserved
loop-index-preserved c =
    let headers = c.args.request.now.headers in
    let name = c.args.name.now in
    let i = c.loop-index.index in
    let within : i < length headers = omega arith in
    elim c.match-header.branch [
      | in-Some+else-is_naming w ↦
          let header : Header = record { name = w.in-Some.field.now; value = w.in-Some.value.now } in
          sym (ap (λ b. b || is_named_by_connection (drop (i + 1) headers) name)
          (sym w.is_naming.ensures ∙ w.if-is_naming.false))
          ∙ sym (ap (λ t. is_named_by_connection t name)
          (drop_here headers i header within w.in-Some.ensures.value))
          ∙ c.loop-index.invariant
      | in_default w ↦
          let here = slice_get-get_or headers i (record { name = []; value = [] }) within in
          let none = w.in_default.ensures.value in
          absurd (cc)
    ]
