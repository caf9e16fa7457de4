use Rattle.answering.proofs.mapping_response.whole_response.Goals as goal

pub returns : goal.returns
returns c = (c.in_ok-reply.reply, c.in_ok-reply.ensures.rendering, c.in_ok-response.ensures)
