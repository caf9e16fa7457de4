use Rattle.std.proofs.Common.{◌≡◌, ◌+◌, ◌≤◌, length, drop}
use Rattle.request_journal.specs.Past.{placed_from}
use Rattle.mapping_store.proofs.counts.count_ids.Given as goal

abbrev pub invariant-loop-i : goal.invariant-loop-i
invariant-loop-i l = record {
  counted : l.count + length (placed_from 0 l.i (drop l.i l.mappings)) ≡ length (placed_from 0 0 l.mappings);
  few : l.count ≤ l.i;
}
