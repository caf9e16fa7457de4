use Rattle.std.proofs.Common.{◌≡◌, ◌++◌, map, take}
use Rattle.mapping_store.proofs.ids.push_ids.Given as goal

abbrev pub invariant-loop-i : goal.invariant-loop-i
invariant-loop-i l = l.ids.items ≡ l.fn.ids.items ++ map (λ m. m.id) (take l.i l.mappings)
