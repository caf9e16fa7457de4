use Rattle.std.proofs.Common.{subst}
use Rattle.code_rules.specs.Verdict.{IsWithinLimits}
use Rattle.code_verifier.proofs.verified.Verified.code.Goals as goal

pub returns-clause-within_limits : goal.returns-clause-within_limits
returns-clause-within_limits c = subst IsWithinLimits c.self.view_is c.self.invariant.within_limits
