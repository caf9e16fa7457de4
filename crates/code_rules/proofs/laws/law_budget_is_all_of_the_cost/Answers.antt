use Rattle.code_rules.proofs.OutermostFacts.{whole-flat}
use Rattle.code_rules.proofs.laws.law_budget_is_all_of_the_cost.Goals as goal

pub returns : goal.returns
returns c = whole-flat
