use Rattle.std.proofs.Common.{[]}
use Rattle.json_bridge.proofs.KeptNames.{none_more}
use Rattle.json_bridge.proofs.part.is_kept.Goals as goal

pub loop-own-preserved : goal.loop-own-preserved
loop-own-preserved c =
    none_more c.args.names.now c.loop-own.own-index (record { ref_ptr = (0, 0); now = [] }) c.args.name.now c.eq.result
    c.loop-own-test.true c.eq.ensures c.if-eq.false c.loop-own.invariant
