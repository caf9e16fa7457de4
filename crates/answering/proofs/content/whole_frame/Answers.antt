use Rattle.std.proofs.Common.{rules, [], append-nil, sym}
use Rattle.answering.proofs.YieldLemmas.{front, after, is_ended}
use Rattle.answering.proofs.content.whole_frame.Goals as goal

pub returns-then-is_empty-clause-value : goal.returns-then-is_empty-clause-value
returns-then-is_empty-clause-value c = is_ended c.args.bytes.now (search rules)

pub returns-clause-value : goal.returns-clause-value
returns-clause-value c = front c.args.bytes.now [] c.args.bytes.now (sym (append-nil c.args.bytes.now)) _ (search rules)

pub returns-clause-rest : goal.returns-clause-rest
returns-clause-rest c = after c.args.bytes.now c.replace-whole.new.dest c.args.bytes.now (search rules) _ (search rules)
