use Rattle.code_rules.proofs.SharperFacts.{sharper}
use Rattle.code_rules.proofs.laws.law_budget_is_at_most_the_coarse_one.Goals as goal

pub returns : goal.returns
returns c = sharper
