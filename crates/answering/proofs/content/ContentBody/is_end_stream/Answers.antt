use Rattle.std.proofs.Common.{rules}
use Rattle.answering.proofs.YieldLemmas.{is_ended}
use Rattle.answering.proofs.content.ContentBody.is_end_stream.Goals as goal

pub returns-in-Whole : goal.returns-in-Whole
returns-in-Whole c = λ is. is_ended c.args.self.now (search rules)
