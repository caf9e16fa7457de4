use Rattle.std.proofs.Common.{arith}
use Rattle.mock_request.proofs.PartsLemmas.{field_count}
use Rattle.mock_request.proofs.fields.Fields.len.Goals as goal

pub returns : goal.returns
returns c =
    let count = field_count c.self.inside.block c.self.invariant in
    rw (← c.self.view_is) (omega (arith, count, c.len.ensures))
