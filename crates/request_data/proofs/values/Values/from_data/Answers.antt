use Rattle.request_data.proofs.RunFieldLemmas.{held_texts}
use Rattle.request_data.proofs.values.Values.from_data.Goals as goal

pub invariant_of-result : goal.invariant_of-result
invariant_of-result c = (held_texts c.in-Values.items _ c.in-Values.is c.requires).0

pub returns : goal.returns
returns c = (held_texts c.in-Values.items _ c.in-Values.is c.requires).1
