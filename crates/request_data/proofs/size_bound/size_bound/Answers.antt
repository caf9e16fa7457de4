use Rattle.std.proofs.Common.{length, option_copied, arith, ap}
use Rattle.request_data.proofs.TextBounds.{escaped_lossy_most, lossy_most}
use Rattle.request_data.proofs.TreeBounds.{tree_most}
use Rattle.request_data.proofs.size_bound.size_bound.Goals as goal

pub returns : goal.returns
returns c =
    let body = c.args.snapshot.now.body in
    omega (
      arith,
      tree_most c.args.snapshot.now (option_copied c.args.template),
      escaped_lossy_most body,
      lossy_most body,
      ap length c.body.ensures.value,
      c.in_ok-of_body.ensures.1,
      c.in_ok-of_head.ensures,
      c.in_ok-checked_add.ensures.1,
    )
