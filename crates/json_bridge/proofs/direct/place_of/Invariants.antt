use Rattle.std.proofs.Common.{length, ◌-◌, ◌≤◌}
use Rattle.json_bridge.proofs.Places.{ArePassed}
use Rattle.json_bridge.proofs.direct.place_of.Given as goal

abbrev pub invariant-loop-index : goal.invariant-loop-index
invariant-loop-index l = record {
  within : l.index ≤ length l.members;
  passed : ArePassed l.name l.index l.members;
}

abbrev pub decreases-loop-index : goal.decreases-loop-index
decreases-loop-index l = length l.members - l.index
