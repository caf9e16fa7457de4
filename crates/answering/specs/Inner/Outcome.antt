-- For private clauses: the reply that the outcome of an admin call is.
use Rattle.admin_answers.specs.Replies.{reply_of}
use Rattle.answering.specs.declared.admin_answer.AdminOutcome.{AdminOutcome}
use Rattle.answering.specs.declared.admin_answer.AdminOutcome.TheVariants.{Answered, Refused}
use Rattle.mapping_model.specs.declared.reply.Reply.{Reply}

abbrev pub reply_in : AdminOutcome → Reply
reply_in (Answered answer) = reply_of answer
reply_in (Refused reply lines) = reply
