use Rattle.std.proofs.Common.{rules}
use Rattle.answering.proofs.YieldLemmas.{front, after, ended, failed, after_failed}
use Rattle.answering.proofs.content.listed_frame.Goals as goal

pub returns-in-Ok-Some-clause-value : goal.returns-in-Ok-Some-clause-value
returns-in-Ok-Some-clause-value c = front _ c.next.new.self _ (search rules) _ c.piece_frame.ensures

pub returns-in-Ok-Some-clause-rest : goal.returns-in-Ok-Some-clause-rest
returns-in-Ok-Some-clause-rest c = after _ _ _ (search rules) _ c.piece_frame.ensures

pub returns-in-Ok-None-clause-value : goal.returns-in-Ok-None-clause-value
returns-in-Ok-None-clause-value c = ended _ (search rules)

pub returns-in-Err-clause-value : goal.returns-in-Err-clause-value
returns-in-Err-clause-value c = failed _ _

pub returns-in-Err-clause-rest : goal.returns-in-Err-clause-rest
returns-in-Err-clause-rest c = after_failed _ _ _
