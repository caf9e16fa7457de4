use Rattle.std.proofs.Common.{◌≡◌, true, None, is_some, codes, sym, ap, ap₂, ◌∙◌, rules}
use Rattle.std.proofs.lemmas.Result.{IfErr-weaker, IfOk-weaker}
use Rattle.json_reading.specs.Reading.{both}
use Rattle.json_reading.specs.declared.reading.Reading.TheVariants.{Read}
use Rattle.mapping_json.proofs.Wrongs.{no_request, not_built, object_right, object_wrong, spelled, wrong_response}
use Rattle.mapping_json.specs.Inner.Wrongs.{joined, wrong_fields, wrong_of}
use Rattle.mapping_json.specs.Reading.{any_request}
use Rattle.serde_json.specs.Find.{as_object, get}
use Rattle.serde_json.specs.View.{view}
use Rattle.mapping_json.proofs.judge.without_request.Goals as goal

pub returns-in-Some-clause-error : goal.returns-in-Some-clause-error
returns-in-Some-clause-error c =
    let d = view c.args.value.now in
    let is_object : is_some (as_object (view c.args.value.now)) ≡ true = search rules in
    let fields : c.args.wrong ≡ wrong_fields (view c.args.value.now) = search rules in
    let absent : get (codes "request") (view c.args.value.now) ≡ None = search rules in
    object_wrong c.args.escape d (both (Read any_request) c.in_ok-response.response) c.in-Some.kind is_object
    (no_request d c.in_ok-response.response absent c.in_ok-response.ensures)
    (ap (joined (wrong_fields d)) (wrong_response c.in_ok-response.response)
    ∙ sym (c.joined.ensures ∙ ap₂ joined fields c.wrong_of.ensures) ∙ c.in-Some.is)

pub returns-in-Read-clause-ok : goal.returns-in-Read-clause-ok
returns-in-Read-clause-ok c =
    let d = view c.args.value.now in
    let is_object : is_some (as_object (view c.args.value.now)) ≡ true = search rules in
    let fields : c.args.wrong ≡ wrong_fields (view c.args.value.now) = search rules in
    let absent : get (codes "request") (view c.args.value.now) ≡ None = search rules in
    let right : joined (wrong_fields d) (wrong_of (both (Read any_request) c.in_ok-response.response)) ≡ None =
    ap (joined (wrong_fields d)) (wrong_response c.in_ok-response.response)
    ∙ sym (c.joined.ensures ∙ ap₂ joined fields c.wrong_of.ensures) ∙ c.in_default.is in
    let with_parts =
    object_right d (both (Read any_request) c.in_ok-response.response) any_request c.in-Read.response
    (no_request d c.in_ok-response.response absent c.in_ok-response.ensures) right
    (ap (both (Read any_request)) c.in-Read.is) in
    IfOk-weaker c.compiled.result _ _
    (λ out is. spelled c.args.escape d any_request c.in-Read.response out is_object with_parts is)
    c.compiled.ensures.ok

pub returns-in-Read-clause-error : goal.returns-in-Read-clause-error
returns-in-Read-clause-error c =
    let d = view c.args.value.now in
    let is_object : is_some (as_object (view c.args.value.now)) ≡ true = search rules in
    let fields : c.args.wrong ≡ wrong_fields (view c.args.value.now) = search rules in
    let absent : get (codes "request") (view c.args.value.now) ≡ None = search rules in
    let right : joined (wrong_fields d) (wrong_of (both (Read any_request) c.in_ok-response.response)) ≡ None =
    ap (joined (wrong_fields d)) (wrong_response c.in_ok-response.response)
    ∙ sym (c.joined.ensures ∙ ap₂ joined fields c.wrong_of.ensures) ∙ c.in_default.is in
    let with_parts =
    object_right d (both (Read any_request) c.in_ok-response.response) any_request c.in-Read.response
    (no_request d c.in_ok-response.response absent c.in_ok-response.ensures) right
    (ap (both (Read any_request)) c.in-Read.is) in
    IfErr-weaker c.compiled.result _ _
    (λ error is. not_built c.args.escape d any_request c.in-Read.response error is_object with_parts is)
    c.compiled.ensures.error
