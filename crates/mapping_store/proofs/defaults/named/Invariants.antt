use Rattle.std.proofs.Common.{◌≡◌, ◌++◌, length}
use Rattle.std.specs.Vec.Iter.{into_iter_items, into_iter_len}
use Rattle.request_journal.specs.Past.{defaults_from}
use Rattle.mapping_store.proofs.defaults.named.Given as goal

-- what is named, followed by what is left under the next indexes, is the whole
abbrev pub invariant-loop-ready : goal.invariant-loop-ready
invariant-loop-ready l = record {
  counted : into_iter_len l.ready-iterator ≡ length (into_iter_items l.ready-iterator);
  index : l.index ≡ length l.named.items;
  whole : defaults_from 0 l.fn.mappings.items
      ≡ l.named.items ++ defaults_from l.index (into_iter_items l.ready-iterator);
}
