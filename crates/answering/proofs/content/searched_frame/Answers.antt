use Rattle.answering.proofs.YieldLemmas.{failed, after_failed}
use Rattle.answering.proofs.content.searched_frame.Goals as goal

pub returns-in-Err-clause-value : goal.returns-in-Err-clause-value
returns-in-Err-clause-value c = failed _ _

pub returns-in-Err-clause-rest : goal.returns-in-Err-clause-rest
returns-in-Err-clause-rest c = after_failed _ _ _
