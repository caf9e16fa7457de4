use Rattle.std.proofs.Common.{◌∷◌, [], Some, Err, ap, sym, subst}
use Rattle.request_match.specs.Errors.{error_of_json}
use Rattle.request_match.specs.Inner.FirstError.{IsFirstError}
use Rattle.request_match.proofs.BodyLemmas.{err_is, json_error}
use Rattle.request_match.proofs.body_test.kind_of.Goals as goal

pub returns-in_err-build-in-Json-clause-refusal : goal.returns-in_err-build-in-Json-clause-refusal
returns-in_err-build-in-Json-clause-refusal c =
    let error = c.in_err-build-in-Json.field-0.0 in
    err_is c.from_residual-in_err-build-in-Json.result (error_of_json error)
    (λ e. IsFirstError (Some e) (c.args.spec.now ∷ [])) c.from_residual-in_err-build-in-Json.ensures.1
    (subst (λ s. IsFirstError (Some (error_of_json error)) (s ∷ [])) (sym c.in-Json.is)
    (json_error c.in-Json.matcher error (λ is. c.in_err-build-in-Json.ensures.not_json (ap Err is))
    (λ is. c.in_err-build-in-Json.ensures.number_not_whole (ap Err is))
    (λ is. c.in_err-build-in-Json.ensures.bad_path.0 (ap Err is))))
