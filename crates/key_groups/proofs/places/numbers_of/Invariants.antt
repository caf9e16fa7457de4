use Rattle.std.proofs.Common.{take}
use Rattle.key_groups.specs.Inner.Maps.{values_at, Numbers}
use Rattle.key_groups.proofs.places.numbers_of.Given as goal

abbrev pub invariant-loop-index : goal.invariant-loop-index
invariant-loop-index g l = Numbers g.K.PartialEq.eq (values_at (take l.index l.keys)) l.numbers
