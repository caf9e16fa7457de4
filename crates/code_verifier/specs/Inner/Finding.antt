-- What the pass finds out about code.
use Rattle.template_code.specs.Code.{StackCode}
use Rattle.code_rules.specs.Verdict.{IsViolation}
use Rattle.code_verifier.specs.Verdict.{IsVerified}
use Rattle.code_verifier.specs.declared.pass.Finding.{Finding}
use Rattle.code_verifier.specs.declared.pass.Finding.TheVariants.{Accepted, Violation}

abbrev pub IsFindingOf : StackCode → Finding → Type 0
IsFindingOf code (Accepted budget) = IsVerified code budget
IsFindingOf code (Violation index rule) = IsViolation code index rule
