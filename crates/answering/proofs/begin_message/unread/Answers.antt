use Rattle.answering.specs.Answering.{refusal}
use Rattle.answering.proofs.begin_message.unread.Goals as goal

pub returns : goal.returns
returns c = c.refused_begun.ensures (refusal c.args.error) c.in_ok-response.ensures
