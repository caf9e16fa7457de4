use Rattle.std.proofs.Common.{◌≡◌, take}
use Rattle.mapping_store.proofs.defaults.copies.Given as goal

abbrev pub invariant-loop-i : goal.invariant-loop-i
invariant-loop-i l = l.copies.items ≡ take l.i l.mappings
