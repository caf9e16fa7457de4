use Rattle.std.proofs.Common.{sym, ◌∙◌, arith}
use Rattle.code_verifier.proofs.BoundFacts.{within-times}
use Rattle.code_verifier.proofs.effect.scaled.Goals as goal

pub returns-in-None : goal.returns-in-None
returns-in-None c =
    within-times c.args.count _ (omega arith) (sym c.in-None.is ∙ c.in_ok-argument_bounds.ensures)
