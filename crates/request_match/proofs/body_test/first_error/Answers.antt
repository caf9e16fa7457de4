use Rattle.std.proofs.Common.{arith, None, Some, subst}
use Rattle.request_match.specs.Inner.FirstError.{IsFirstError}
use Rattle.request_match.proofs.ErrorLemmas.{known_first, error_first, at_most_six}
use Rattle.request_match.proofs.body_test.first_error.Goals as goal

pub returns-in-Some : goal.returns-in-Some
returns-in-Some c = λ patterns more p q.
    known_first c.in-Some.known c.args.error patterns more (omega (arith, c.rank.ensures, c.rank-in-Some-1.ensures))
    (subst (λ k. IsFirstError k patterns) c.in-Some.is p) q

pub returns-in_default : goal.returns-in_default
returns-in_default c = λ patterns more p q.
    error_first (Some c.in-Some.known) c.args.error patterns more
    (omega (arith, c.rank.ensures, c.rank-in-Some-1.ensures))
    (subst (λ k. IsFirstError k patterns) c.in-Some.is p) q

pub returns-in_default-2 : goal.returns-in_default-2
returns-in_default-2 c = λ patterns more p q.
    error_first None c.args.error patterns more (at_most_six (Some c.args.error))
    (subst (λ k. IsFirstError k patterns) c.in_default.is p) q
