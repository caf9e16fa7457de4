use Rattle.std.proofs.Common.{◌≡◌, ℕ, Some, sym, subst, ◌∙◌, arith}
use Rattle.code_rules.specs.Polynomial.{times}
use Rattle.code_verifier.specs.Inner.Limited.{within}
use Rattle.code_verifier.proofs.GrowthFacts.{times-none, times-next}
use Rattle.code_verifier.proofs.polynomial.Polynomial.times.Goals as goal

pub returns-in-None : goal.returns-in-None
returns-in-None c =
    times-none c.loop-done.done c.args.count c.args.self.now c.loop-done.product (omega arith) c.loop-done.invariant
    (sym c.in-None.is ∙ c.in_ok-plus.ensures)

pub loop-done-preserved : goal.loop-done-preserved
loop-done-preserved c =
    times-next c.loop-done.done c.args.self.now c.loop-done.product _ c.loop-done.invariant
    (sym c.in-Some.is ∙ c.in_ok-plus.ensures)

pub returns : goal.returns
returns c =
    let e : c.loop-done.done ≡ c.args.count = omega arith in
    let P : ℕ → Type 0 = λ k. Some c.loop-done.product ≡ within (times k c.args.self.now) in
    subst P e c.loop-done.invariant
