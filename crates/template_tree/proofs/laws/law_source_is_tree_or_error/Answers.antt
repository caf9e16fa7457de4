use Rattle.template_tree.proofs.Outcomes.{one_outcome}
use Rattle.template_tree.proofs.laws.law_source_is_tree_or_error.Goals as goal

pub returns : goal.returns
returns c = λ source. let outcome = one_outcome source in (outcome.0, outcome.1.0, outcome.1.1)
