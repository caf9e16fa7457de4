-- What is known of accepted code, and what an error says of the code that was given.
use Rattle.std.specs.Prelude.{◌≡◌}
use Rattle.template_code.specs.Code.{StackCode, HasTypedNumbers}
use Rattle.code_rules.specs.Polynomial.{as_printed}
use Rattle.code_rules.specs.Regions.{Budget, budget}
use Rattle.code_rules.specs.Verdict.{IsWellFormed, IsWithinLimits, IsViolation}
use Rattle.code_verifier.specs.declared.error.VerifyError.{VerifyError}
use Rattle.code_verifier.specs.declared.error.VerifyError.TheVariants.{CodeRefused, OutOfMemory}

-- the code is accepted, and these are the lists of its budget
pub record IsVerified (code : StackCode) (lists : Budget) : Type 0 where
  pub well_formed : IsWellFormed code
  pub within_limits : IsWithinLimits code
  pub typed : HasTypedNumbers code
  pub steps : lists.steps ≡ as_printed (budget code).steps
  pub bytes : lists.bytes ≡ as_printed (budget code).bytes

-- the error hands the code back, and a refusal reports its violation
abbrev pub IsVerifyErrorOf : StackCode → VerifyError → Type 0
IsVerifyErrorOf code (CodeRefused back index rule) = (back ≡ code) × IsViolation code index rule
IsVerifyErrorOf code (OutOfMemory back) = back ≡ code
