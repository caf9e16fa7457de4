use Rattle.std.proofs.Common.{◌≡◌, true, None, is_some, sym, ap₂, ◌∙◌, rules}
use Rattle.std.proofs.lemmas.Result.{IfErr-weaker, IfOk-weaker}
use Rattle.mapping_json.proofs.Wrongs.{not_built, object_right, object_wrong, spelled}
use Rattle.mapping_json.specs.Inner.Wrongs.{joined, wrong_fields, wrong_of}
use Rattle.serde_json.specs.Find.{as_object}
use Rattle.serde_json.specs.View.{view}
use Rattle.mapping_json.proofs.judge.with_request.Goals as goal

pub returns-in-Some-clause-error : goal.returns-in-Some-clause-error
returns-in-Some-clause-error c =
    let is_object : is_some (as_object (view c.args.value.now)) ≡ true = search rules in
    let fields : c.args.wrong ≡ wrong_fields (view c.args.value.now) = search rules in
    object_wrong c.args.escape (view c.args.value.now) c.in_ok-parts.parts c.in-Some.kind
    is_object c.in_ok-parts.ensures
    (sym (c.joined.ensures ∙ ap₂ joined fields c.wrong_of.ensures) ∙ c.in-Some.is)

pub returns-in-Read-clause-ok : goal.returns-in-Read-clause-ok
returns-in-Read-clause-ok c =
    let d = view c.args.value.now in
    let is_object : is_some (as_object (view c.args.value.now)) ≡ true = search rules in
    let fields : c.args.wrong ≡ wrong_fields (view c.args.value.now) = search rules in
    let right : joined (wrong_fields d) (wrong_of c.in_ok-parts.parts) ≡ None =
    sym (c.joined.ensures ∙ ap₂ joined fields c.wrong_of.ensures) ∙ c.in_default.is in
    let with_parts =
    object_right d c.in_ok-parts.parts c.in-Read.request c.in-Read.response c.in_ok-parts.ensures right c.in-Read.is in
    IfOk-weaker c.built.result _ _
    (λ out is. spelled c.args.escape d c.in-Read.request c.in-Read.response out is_object with_parts is)
    c.built.ensures.ok

pub returns-in-Read-clause-error : goal.returns-in-Read-clause-error
returns-in-Read-clause-error c =
    let d = view c.args.value.now in
    let is_object : is_some (as_object (view c.args.value.now)) ≡ true = search rules in
    let fields : c.args.wrong ≡ wrong_fields (view c.args.value.now) = search rules in
    let right : joined (wrong_fields d) (wrong_of c.in_ok-parts.parts) ≡ None =
    sym (c.joined.ensures ∙ ap₂ joined fields c.wrong_of.ensures) ∙ c.in_default.is in
    let with_parts =
    object_right d c.in_ok-parts.parts c.in-Read.request c.in-Read.response c.in_ok-parts.ensures right c.in-Read.is in
    IfErr-weaker c.built.result _ _
    (λ error is. not_built c.args.escape d c.in-Read.request c.in-Read.response error is_object with_parts is)
    c.built.ensures.error
