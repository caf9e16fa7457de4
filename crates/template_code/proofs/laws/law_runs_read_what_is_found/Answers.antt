use Rattle.template_code.proofs.FindFacts.{same_runs}
use Rattle.template_code.proofs.laws.law_runs_read_what_is_found.Goals as goal

pub returns : goal.returns
returns c = same_runs
