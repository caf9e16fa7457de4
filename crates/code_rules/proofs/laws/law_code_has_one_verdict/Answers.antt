use Rattle.code_rules.proofs.ViolationFacts.{violation_or_accepted, never_both, one_violation, broken_or_formed}
use Rattle.code_rules.proofs.ViolationFacts.{broken_not_formed, violation-V13}
use Rattle.std.proofs.Common.{arith}
use Rattle.code_rules.proofs.FormFacts.{formed-some, formed-few}
use Rattle.code_rules.proofs.laws.law_code_has_one_verdict.Goals as goal

pub returns-clause-judged : goal.returns-clause-judged
returns-clause-judged c = violation_or_accepted

pub returns-clause-never_both : goal.returns-clause-never_both
returns-clause-never_both c = λ code index rule f a. never_both code index rule f a.0 a.1

pub returns-clause-one_violation : goal.returns-clause-one_violation
returns-clause-one_violation c = one_violation

pub returns-clause-formed : goal.returns-clause-formed
returns-clause-formed c = broken_or_formed

pub returns-clause-never_both_formed : goal.returns-clause-never_both_formed
returns-clause-never_both_formed c = broken_not_formed

pub returns-clause-limited : goal.returns-clause-limited
returns-clause-limited c = λ code w. (omega (arith, formed-some code w), formed-few code w)

pub returns-clause-only_V13 : goal.returns-clause-only_V13
returns-clause-only_V13 c = λ code index rule f w. (violation-V13 code index rule f w).0
