use Rattle.json_bridge.proofs.Marks.{cut_is}
use Rattle.json_bridge.proofs.next_step.cut_at.Goals as goal

pub returns : goal.returns
returns c =
    cut_is c.args.mark c.args.text.now c.split_once.result
    (c.split_once.ensures.byte c.requires (λ w o found. found))
