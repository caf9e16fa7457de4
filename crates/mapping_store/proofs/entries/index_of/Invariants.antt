use Rattle.std.proofs.Common.{◌≢◌, take, All}
use Rattle.mapping_store.proofs.entries.index_of.Given as goal

abbrev pub invariant-loop-i : goal.invariant-loop-i
invariant-loop-i l = All (λ e. e.id ≢ l.id) (take l.i l.entries)
