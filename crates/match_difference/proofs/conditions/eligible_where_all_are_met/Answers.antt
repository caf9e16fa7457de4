use Rattle.match_difference.proofs.EligibleLemmas.{eligible_where_all_are_met}
use Rattle.match_difference.proofs.conditions.eligible_where_all_are_met.Goals as goal

pub returns : goal.returns
returns c = λ state_of request mapping. eligible_where_all_are_met state_of request mapping
