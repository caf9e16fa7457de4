use Rattle.std.proofs.Common.{◌<◌, ◌++◌, [], length, take, ap, sym, ◌∙◌, arith}
use Rattle.std.proofs.lemmas.Option.{slice_get-get_or}
use Rattle.mock_request.specs.Request.{Header}
use Rattle.recorder.specs.Key.{headers_named, fields_of}
use Rattle.recorder.proofs.KeyLemmas.{one_more, none_more, field_pushed}
use Rattle.recorder.proofs.key.push_named.Goals as goal
use Rattle.recorder.proofs.key.push_named.Goals.{in-Some+then-is_named+in_ok-push, in-Some+else-is_named, in_default}

pub loop-index-preserved : goal.loop-index-preserved
loop-index-preserved c =
    let name = c.args.name.now in
    let all = c.args.request.now.headers in
    let i = c.loop-index.index in
    let old = c.args.headers.now.items in
    let within : i < length all = omega arith in
    elim c.match-header.branch [
      | in-Some+then-is_named+in_ok-push w ↦
          let header : Header = record { name = w.in-Some.header.now; value = w.in-Some.value.now } in
          let more = one_more name all i header within w.in-Some.ensures.value
          (sym w.is_named.ensures ∙ w.if-is_named.true) in
          ap (λ v. fields_of v.items) w.headers-is
          ∙ field_pushed old c.loop-index.headers.items _ (w.in-Some.header, w.in-Some.value)
          (headers_named name (take i all)) w.in_ok-push.ensures.items c.loop-index.invariant
          ∙ ap (λ t. fields_of old ++ t) (sym more)
      | in-Some+else-is_named w ↦
          let header : Header = record { name = w.in-Some.header.now; value = w.in-Some.value.now } in
          let same = none_more name all i header within w.in-Some.ensures.value
          (sym w.is_named.ensures ∙ w.if-is_named.false) in
          ap (λ v. fields_of v.items) w.headers-is ∙ c.loop-index.invariant
          ∙ ap (λ t. fields_of old ++ t) (sym same)
      | in_default w ↦
          let here = slice_get-get_or all i (record { name = []; value = [] }) within in
          let none = w.in_default.ensures.value in
          absurd (cc)
    ]
