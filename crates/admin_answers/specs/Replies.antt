-- The reply that an answer is.
use Rattle.admin_answers.specs.declared.admin_answer.AdminAnswer.{AdminAnswer}
use Rattle.admin_answers.specs.declared.admin_answer.AdminAnswer.TheVariants.{Whole, Listed}
use Rattle.mapping_model.specs.declared.reply.Reply.{Reply}
use Rattle.stub_response.specs.ErrorReply.{json_reply}

-- a list is the body of a reply with status 200
abbrev pub reply_of : AdminAnswer → Reply
reply_of (Whole reply) = reply
reply_of (Listed text) = json_reply 200 text
