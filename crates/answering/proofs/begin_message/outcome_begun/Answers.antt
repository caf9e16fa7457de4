use Rattle.answering.proofs.begin_message.outcome_begun.Goals as goal

pub returns-in_ok-response-in-Refused : goal.returns-in_ok-response-in-Refused
returns-in_ok-response-in-Refused c =
    rw c.in-Refused.is (c.refused_begun.ensures c.in-Refused.reply c.in_ok-response-in-Refused.ensures)
