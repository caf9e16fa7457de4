use Rattle.std.proofs.Common.{◌+◌, ◌<◌, ◌⊎◌, ◌∷◌, ◌++◌, [], length, take, drop, ap}
use Rattle.std.proofs.Common.{sym, subst, ◌∙◌, append_assoc, append-nil, arith, rules}
use Rattle.std.proofs.lemmas.Option.{slice_get-get_or}
use Rattle.http_header.specs.FieldValue.{FieldValue, IsFieldValue}
use Rattle.http_header.specs.HeaderMap.{RefusesAppend}
use Rattle.mock_request.specs.Request.{Header}
use Rattle.recorder.specs.Forwarding.{AreSendable, map_of, own_headers, passed_on}
use Rattle.recorder.proofs.ForwardingLemmas.{map_with_next}
use Rattle.recorder.proofs.SendableLemmas.{not_sendable, passed_on_at}
use Rattle.recorder.proofs.forwarding.forwarded_headers.Goals as goal
use Rattle.recorder.proofs.forwarding.forwarded_headers.Goals.{in-Some+in_ok-push_passed_on, in_default}

pub loop-index-init : goal.loop-index-init
loop-index-init c =
    c.in_ok-headers.ensures.value
    ∙ ap map_of (sym (append-nil (own_headers c.args.target.now c.args.request.now)))

pub loop-index-preserved : goal.loop-index-preserved
loop-index-preserved c =
    let target = c.args.target.now in
    let request = c.args.request.now in
    let i = c.loop-index.index in
    let within : i < length request.headers = omega arith in
    elim c.match-header.branch [
      | in-Some+in_ok-push_passed_on w ↦
          let header : Header = record { name = w.in-Some.name.now; value = w.in-Some.value.now } in
          w.headers-is
          ∙ map_with_next request.headers (own_headers target request) request.headers i header within
          w.in-Some.ensures.value c.loop-index.headers w.push_passed_on.new.headers c.loop-index.invariant
          w.in_ok-push_passed_on.ensures.value
      | in_default w ↦
          let here = slice_get-get_or request.headers i (record { name = []; value = [] }) within in
          let none = w.in_default.ensures.value in
          absurd (cc)
    ]

pub returns-in_err-headers-clause-unsendable : goal.returns-in_err-headers-clause-unsendable
returns-in_err-headers-clause-unsendable c = λ is.
    let headers = c.args.request.now.headers in
    c.in_err-headers.ensures.unsendable (search rules) (passed_on headers headers)

pub returns-in_err-push_passed_on-clause-unsendable : goal.returns-in_err-push_passed_on-clause-unsendable
returns-in_err-push_passed_on-clause-unsendable c = λ is sendable.
    let own = own_headers c.args.target.now c.args.request.now in
    let headers = c.args.request.now.headers in
    let i = c.loop-index.index in
    let before = passed_on headers (take i headers) in
    let after = passed_on headers (drop (i + 1) headers) in
    let within : i < length headers = omega arith in
    let header : Header = record { name = c.in-Some.name.now; value = c.in-Some.value.now } in
    let why = c.in_err-push_passed_on.ensures.unsendable (search rules) in
    let split = passed_on_at headers headers i header within c.in-Some.ensures.value why.0 in
    not_sendable (own ++ before) after header
    (subst (λ m. ¬ (IsFieldValue header.value) ⊎ RefusesAppend {X = FieldValue} m header.name)
    c.loop-index.invariant why.1)
    (subst AreSendable (ap (λ t. own ++ t) split ∙ sym (append_assoc own before (header ∷ after))) sendable)
