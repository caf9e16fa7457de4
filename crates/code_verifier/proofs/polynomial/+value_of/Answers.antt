use Rattle.std.proofs.Common.{arith, ◌^◌, refl, ◌<◌, get_or}
use Rattle.code_verifier.proofs.SumFacts.{value-over}
use Rattle.code_verifier.proofs.polynomial.+value_of.Goals as goal

pub returns-in_err-value_of-in-Some-clause-none : goal.returns-in_err-value_of-in-Some-clause-none
returns-in_err-value_of-in-Some-clause-none t c =
    let e = c.in-Some.ensures.cases.0 in
    let b : get_or c.in-Some.others.now 0 0 < 2 ^ 64 = let f = rw e at (c.type_inv.coefficients 1) in
    omega (arith, f) in
    rw c.from_residual.ensures (
      λ _. rw e (value-over c.in-Some.constant.now c.in-Some.others.now c.args.size
          (2 ^ 64) (2 ^ 128) (omega arith) b (c.in_err-value_of-in-Some.ensures.none.0 refl)),
      λ _. refl,
    )
