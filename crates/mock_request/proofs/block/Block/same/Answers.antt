use Rattle.std.proofs.Common.{[], refl, arith}
use Rattle.std.proofs.lemmas.List.{take_more_same}
use Rattle.mock_request.proofs.block.Block.same.Goals as goal

pub loop-i-preserved : goal.loop-i-preserved
loop-i-preserved c =
    take_more_same c.args.self.now c.args.other.now c.loop-i.i [] (omega arith) (omega arith) c.loop-i.invariant
    (let e = c.if-not-is_at.ensures.0 refl in cc)
