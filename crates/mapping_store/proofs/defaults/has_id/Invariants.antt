use Rattle.std.proofs.Common.{◌≡◌, drop}
use Rattle.request_journal.specs.Past.{has_id}
use Rattle.mapping_store.proofs.defaults.has_id.Given as goal

abbrev pub invariant-loop-i : goal.invariant-loop-i
invariant-loop-i l = has_id l.mappings l.id ≡ has_id (drop l.i l.mappings) l.id
