use Rattle.std.proofs.Common.{◌≡◌, map, take}
use Rattle.mapping_store.specs.Kept.{placed_of}
use Rattle.mapping_store.proofs.listing.list_all.Given as goal

abbrev pub invariant-loop-i : goal.invariant-loop-i
invariant-loop-i l = l.listed.items ≡ map placed_of (take l.i l.entries)
