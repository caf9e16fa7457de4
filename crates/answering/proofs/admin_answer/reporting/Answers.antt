use Rattle.answering.proofs.admin_answer.reporting.Goals as goal

pub returns : goal.returns
returns c = rw c.in_ok-reply.ensures at c.refusing.ensures
