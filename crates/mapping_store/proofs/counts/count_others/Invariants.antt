use Rattle.std.proofs.Common.{◌≡◌, ◌≤◌, not, length, take}
use Rattle.std.specs.List.{filter}
use Rattle.request_journal.specs.Past.{has_id}
use Rattle.mapping_store.proofs.counts.count_others.Given as goal

abbrev pub invariant-loop-i : goal.invariant-loop-i
invariant-loop-i l = record {
  counted : l.count ≡ length (filter (λ e. not (has_id l.mappings e.id)) (take l.i l.entries));
  few : l.count ≤ l.i;
}
