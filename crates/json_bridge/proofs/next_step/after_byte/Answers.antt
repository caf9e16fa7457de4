use Rattle.json_bridge.proofs.Marks.{strip_is}
use Rattle.json_bridge.proofs.next_step.after_byte.Goals as goal

pub returns : goal.returns
returns c = strip_is c.args.mark c.args.text.now c.strip_prefix.result c.requires c.strip_prefix.ensures.cases
