use Rattle.path_template.proofs.NamedSegments.{has_name, with_name}
use Rattle.path_template.proofs.laws.law_segment_with_a_name.Goals as goal

pub returns : goal.returns
returns c = λ segment name. (has_name segment name, λ is. with_name segment name is.0 is.1)
