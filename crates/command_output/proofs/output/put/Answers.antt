use Rattle.std.proofs.Common.{◌++◌, take}
use Rattle.std.proofs.KnownBytes.{Appends-trans}
use Rattle.command_output.proofs.PartsWritten.{one_piece_more}
use Rattle.command_output.proofs.output.put.Goals as goal

pub loop-rest-preserved-in-Ok : goal.loop-rest-preserved-in-Ok
loop-rest-preserved-in-Ok g c =
    let (front, split, written) = c.loop-rest.invariant in
    let rest = c.loop-rest.rest.now in (
      front ++ take c.in-Ok.count rest,
      one_piece_more _ front rest c.in-Ok.count split,
      Appends-trans _ _ _ _ _ written c.in-Ok.ensures.bytes,
    )
