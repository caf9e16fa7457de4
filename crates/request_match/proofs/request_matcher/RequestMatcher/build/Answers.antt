use Rattle.std.proofs.Common.{All, Any, Err, ap, subst}
use Rattle.request_match.specs.Refusal.{IsRefusal}
use Rattle.request_match.proofs.BuildLemmas.{url_error, head_error, head_patterns, body_is_error}
use Rattle.request_match.proofs.BuildLemmas.{in_headers, in_query, in_cookies}
use Rattle.request_match.proofs.request_matcher.RequestMatcher.build.Goals as goal
use Rattle.request_match.proofs.BodyLemmas.{err_is}
use Rattle.request_match.specs.Errors.{error_of_value}
use Rattle.request_match.specs.Parts.Refusal.{IsBodyRefusal, HavePatterns, HaveTrees, HavePaths, matchers_of}
use Rattle.value_match.specs.Refusal.{HasPattern, MayBeRefused}

pub returns-in_err-build-clause-refusal : goal.returns-in_err-build-clause-refusal
returns-in_err-build-clause-refusal c =
    err_is c.from_residual-in_err-build.result c.in_err-build.field-0.0 (IsRefusal c.args.spec.now)
    c.from_residual-in_err-build.ensures.1
    (url_error c.args.spec.now c.in_err-build.field-0.0 c.in_err-build.ensures.refusal)

pub returns-in_err-build_tests-clause-refusal : goal.returns-in_err-build_tests-clause-refusal
returns-in_err-build_tests-clause-refusal c =
    err_is c.from_residual-in_err-build_tests.result (error_of_value c.in_err-build_tests.field-0.0)
    (IsRefusal c.args.spec.now) c.from_residual-in_err-build_tests.ensures.1
    (head_error c.args.spec.now c.in_err-build_tests.field-0.0 c.in_ok-build.ensures.template
    (λ is. in_headers c.args.spec.now (subst (λ s. Any MayBeRefused (matchers_of s)) c.as_slice.ensures
    (c.in_err-build_tests.ensures.bad_pattern (ap Err is)))))

pub returns-in_err-build_tests-2-clause-refusal : goal.returns-in_err-build_tests-2-clause-refusal
returns-in_err-build_tests-2-clause-refusal c =
    err_is c.from_residual-in_err-build_tests-2.result (error_of_value c.in_err-build_tests-2.field-0.0)
    (IsRefusal c.args.spec.now) c.from_residual-in_err-build_tests-2.ensures.1
    (head_error c.args.spec.now c.in_err-build_tests-2.field-0.0 c.in_ok-build.ensures.template
    (λ is. in_query c.args.spec.now (subst (λ s. Any MayBeRefused (matchers_of s)) c.as_slice-2.ensures
    (c.in_err-build_tests-2.ensures.bad_pattern (ap Err is)))))

pub returns-in_err-build_tests-3-clause-refusal : goal.returns-in_err-build_tests-3-clause-refusal
returns-in_err-build_tests-3-clause-refusal c =
    err_is c.from_residual-in_err-build_tests-3.result (error_of_value c.in_err-build_tests-3.field-0.0)
    (IsRefusal c.args.spec.now) c.from_residual-in_err-build_tests-3.ensures.1
    (head_error c.args.spec.now c.in_err-build_tests-3.field-0.0 c.in_ok-build.ensures.template
    (λ is. in_cookies c.args.spec.now (subst (λ s. Any MayBeRefused (matchers_of s)) c.as_slice-3.ensures
    (c.in_err-build_tests-3.ensures.bad_pattern (ap Err is)))))

pub returns-in_err-build_body-clause-refusal : goal.returns-in_err-build_body-clause-refusal
returns-in_err-build_body-clause-refusal c =
    let spec = c.args.spec.now in
    let error = c.in_err-build_body.field-0.0 in
    err_is c.from_residual-in_err-build_body.result error (IsRefusal spec) c.from_residual-in_err-build_body.ensures.1
    (body_is_error spec error c.in_ok-build.ensures.template
    (head_patterns spec c.in_ok-build.ensures.patterns
    (subst (λ s. All HasPattern (matchers_of s)) c.as_slice.ensures c.in_ok-build_tests.ensures.patterns)
    (subst (λ s. All HasPattern (matchers_of s)) c.as_slice-2.ensures c.in_ok-build_tests-2.ensures.patterns)
    (subst (λ s. All HasPattern (matchers_of s)) c.as_slice-3.ensures c.in_ok-build_tests-3.ensures.patterns))
    (subst (λ s. IsBodyRefusal s error) c.as_slice-4.ensures c.in_err-build_body.ensures.refusal))

pub returns-clause-usable : goal.returns-clause-usable
returns-clause-usable c =
    let spec = c.args.spec.now in
    let built = c.in_ok-build_body.ensures in
    record {
      template = c.in_ok-build.ensures.template;
      head = head_patterns spec c.in_ok-build.ensures.patterns
          (subst (λ s. All HasPattern (matchers_of s)) c.as_slice.ensures c.in_ok-build_tests.ensures.patterns)
          (subst (λ s. All HasPattern (matchers_of s)) c.as_slice-2.ensures c.in_ok-build_tests-2.ensures.patterns)
          (subst (λ s. All HasPattern (matchers_of s)) c.as_slice-3.ensures c.in_ok-build_tests-3.ensures.patterns);
      patterns = subst HavePatterns c.as_slice-4.ensures built.patterns;
      trees = subst HaveTrees c.as_slice-4.ensures built.trees;
      paths = subst HavePaths c.as_slice-4.ensures built.paths;
    }
