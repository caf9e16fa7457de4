use Rattle.code_rules.proofs.TrimFacts.{budget-trimmed}
use Rattle.code_rules.proofs.laws.law_budget_ends_in_no_zero.Goals as goal

pub returns : goal.returns
returns c = budget-trimmed
