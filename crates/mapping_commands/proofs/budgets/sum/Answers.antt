use Rattle.std.proofs.Common.{◌<◌, length, arith}
use Rattle.std.specs.Prelude.{max}
use Rattle.code_verifier.proofs.SumFacts.{sum-more}
use Rattle.mapping_commands.proofs.budgets.sum.Goals as goal

pub loop-index-preserved : goal.loop-index-preserved
loop-index-preserved c =
    let ps = c.args.total.now in
    let qs = c.args.list.now in
    let i = c.loop-index.index in
    let lt : i < max (length ps) (length qs) = omega (arith, c.max-index-end.ensures, c.loop-index-test.true) in
    rw c.in_ok-push.ensures.items
    (sum-more ps qs c.loop-index.sum.items i c.sum_at.result lt c.loop-index.invariant c.sum_at.ensures)
