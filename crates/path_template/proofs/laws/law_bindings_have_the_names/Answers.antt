use Rattle.path_template.proofs.Bound.{bindings_have_names}
use Rattle.path_template.proofs.laws.law_bindings_have_the_names.Goals as goal

pub returns : goal.returns
returns c = bindings_have_names
