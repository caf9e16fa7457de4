use Rattle.std.proofs.Common.{◌≡◌, map, take}
use Rattle.mapping_store.specs.Ids.{is_last}
use Rattle.mapping_store.proofs.ids.lasts.Given as goal

abbrev pub invariant-loop-place : goal.invariant-loop-place
invariant-loop-place l = l.lasts.items ≡ map is_last (take l.place-index l.place-items)
