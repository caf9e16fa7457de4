use Rattle.std.proofs.Common.{◌≡◌, Some}
use Rattle.code_rules.specs.Polynomial.{times}
use Rattle.code_verifier.specs.Inner.Limited.{within}
use Rattle.code_verifier.proofs.polynomial.Polynomial.times.Given as goal

abbrev pub invariant-loop-done : goal.invariant-loop-done
invariant-loop-done l = Some l.product ≡ within (times l.done l.self)
