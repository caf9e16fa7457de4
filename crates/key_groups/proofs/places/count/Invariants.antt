use Rattle.std.proofs.Common.{◌≡◌, length, take}
use Rattle.key_groups.specs.Inner.Maps.{Counts, PositionsBelow}
use Rattle.key_groups.proofs.places.count.Given as goal

abbrev pub invariant-loop-key : goal.invariant-loop-key
invariant-loop-key g l = record {
  counts : Counts g.K.PartialEq.eq (take l.key-index l.keys) l.sizes;
  len : length l.positions.items ≡ l.key-index;
  placed : PositionsBelow g.K.PartialEq.eq l.keys l.key-index l.positions.items;
}
