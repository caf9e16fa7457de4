use Rattle.std.proofs.Common.{arith}
use Rattle.mock_request.proofs.BlockLemmas.{length_parts}
use Rattle.mock_request.proofs.block.Block.len.Goals as goal

pub returns : goal.returns
returns c = rw (← c.self.view_is, length_parts) (omega arith)
