use Rattle.code_rules.specs.Verdict.{IsViolation}
use Rattle.code_rules.proofs.ViolationFacts.{never_both}
use Rattle.code_verifier.proofs.verify.verify.Goals as goal

pub returns-in-Ok-Violation-clause-only : goal.returns-in-Ok-Violation-clause-only
returns-in-Ok-Violation-clause-only c formed within =
    let violation : IsViolation c.args.code c.in-Ok-Violation.index c.in-Ok-Violation.rule =
    rw c.in-Ok-Violation.field-0-is at c.in-Ok-Violation.ensures in
    absurd (never_both c.args.code c.in-Ok-Violation.index c.in-Ok-Violation.rule violation formed within)
