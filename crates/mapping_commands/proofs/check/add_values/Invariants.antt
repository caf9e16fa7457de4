use Rattle.std.proofs.Common.{map, take}
use Rattle.mapping_commands.specs.Inner.Reports.{Adds}
use Rattle.mapping_commands.proofs.check.add_values.Given as goal
use Rattle.serde_json.specs.View.{view}

-- the first values are added
abbrev pub invariant-loop-index : goal.invariant-loop-index
invariant-loop-index l = Adds l.fn.escape (map view (take l.index l.values)) l.fn.checked l.checked
