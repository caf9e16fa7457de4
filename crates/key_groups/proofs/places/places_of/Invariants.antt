use Rattle.std.proofs.Common.{◌≡◌, ◌++◌, take, drop}
use Rattle.key_groups.specs.Groups.{places_from, places_of}
use Rattle.key_groups.proofs.places.places_of.Given as goal

abbrev pub invariant-loop-index : goal.invariant-loop-index
invariant-loop-index g l =
    l.places.items ++ places_from g.K.PartialEq.eq l.keys (take l.index l.keys) (drop l.index l.keys)
    ≡ places_of g.K.PartialEq.eq l.keys
