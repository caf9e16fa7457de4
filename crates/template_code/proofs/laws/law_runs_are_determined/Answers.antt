use Rattle.template_code.proofs.RunFacts.{ends_alike}
use Rattle.template_code.proofs.laws.law_runs_are_determined.Goals as goal

pub returns : goal.returns
returns c = ends_alike
