use Rattle.match_difference.proofs.met.is_met.Goals as goal

pub returns-in-Value-clause-answer : goal.returns-in-Value-clause-answer
returns-in-Value-clause-answer c = rw c.in-Value.is c.meets_value.ensures.answer

pub returns-in-PathParameter-clause-answer : goal.returns-in-PathParameter-clause-answer
returns-in-PathParameter-clause-answer c = rw c.in-PathParameter.is c.meets_parameter.ensures.answer
