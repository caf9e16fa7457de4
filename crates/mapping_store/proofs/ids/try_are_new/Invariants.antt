use Rattle.std.proofs.Common.{◌≡◌, map, take}
use Rattle.mapping_store.proofs.ids.try_are_new.Given as goal

abbrev pub invariant-loop-i : goal.invariant-loop-i
invariant-loop-i l = l.ids.items ≡ map (λ e. e.id) (take l.i l.entries)
