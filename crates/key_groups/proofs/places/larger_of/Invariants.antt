use Rattle.std.proofs.Common.{◌≡◌, ◌++◌, take, drop}
use Rattle.key_groups.specs.Groups.{larger_from, larger_groups}
use Rattle.key_groups.specs.Inner.Maps.{values_at}
use Rattle.key_groups.proofs.places.larger_of.Given as goal

abbrev pub invariant-loop-index : goal.invariant-loop-index
invariant-loop-index g l =
    values_at l.larger.items ++ larger_from g.K.PartialEq.eq l.keys (take l.index l.keys) (drop l.index l.keys)
    ≡ larger_groups g.K.PartialEq.eq l.keys
