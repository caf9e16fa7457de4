use Rattle.std.proofs.Common.{length}
use Rattle.request_data.specs.Inner.RunFields.{runs_in}
use Rattle.request_data.specs.Inner.Runs.{AreInOrder}
use Rattle.request_data.proofs.runs.ascend.Given as goal

-- where the rest is in order, all are
abbrev pub invariant-loop-rest : goal.invariant-loop-rest
invariant-loop-rest l = AreInOrder (runs_in l.rest) → AreInOrder (runs_in l.fields)

abbrev pub decreases-loop-rest : goal.decreases-loop-rest
decreases-loop-rest l = length l.rest
