use Rattle.needed_data.proofs.FieldSets.{no_names}
use Rattle.needed_data.proofs.needed.Needed.new.Goals as goal

pub returns-clause-names : goal.returns-clause-names
returns-clause-names c = no_names
