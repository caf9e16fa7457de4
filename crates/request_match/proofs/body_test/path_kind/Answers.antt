use Rattle.std.proofs.Common.{◌∷◌, [], Some, Err, ap, subst}
use Rattle.json_bridge.specs.Path.{IsPath}
use Rattle.mapping_model.specs.declared.body_pattern.BodyPattern.TheVariants.{JsonPath}
use Rattle.request_match.specs.Errors.{error_of_path}
use Rattle.request_match.specs.Inner.FirstError.{IsFirstError}
use Rattle.request_match.proofs.BodyLemmas.{err_is, path_error}
use Rattle.request_match.proofs.body_test.path_kind.Goals as goal

pub returns-in_err-path-clause-refusal : goal.returns-in_err-path-clause-refusal
returns-in_err-path-clause-refusal c =
    let expression = c.args.expression.now in
    let error = c.in_err-path.field-0.0 in
    err_is c.from_residual-in_err-path.result (error_of_path error)
    (λ e. IsFirstError (Some e) (JsonPath expression c.args.matcher.now ∷ [])) c.from_residual-in_err-path.ensures.1
    (path_error expression c.args.matcher.now error c.in_ok-matcher.ensures.pattern
    (λ is. subst (λ t. ¬ (IsPath t)) c.as_str.ensures (c.in_err-path.ensures.bad.0 (ap Err is))))
