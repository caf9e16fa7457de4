use Rattle.code_rules.proofs.Courses.Due.{run-within}
use Rattle.code_rules.proofs.loop_law.law_runs_keep_to_their_budget.Goals as goal

pub returns : goal.returns
returns c = run-within
