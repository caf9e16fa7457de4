use Rattle.std.proofs.Common.{sym, ◌∙◌}
use Rattle.code_rules.specs.Costs.{cost_of_turns}
use Rattle.code_verifier.proofs.BoundFacts.{cost-within-right}
use Rattle.code_verifier.proofs.loops.OpenLoop.cost_round.Goals as goal

pub returns-in-None : goal.returns-in-None
returns-in-None c =
    cost-within-right c.args.self.now.before (cost_of_turns c.args.self.now.is_part c.args.turn.now)
    (sym c.in-None.is ∙ c.in_ok-of_turns.ensures)
