use Rattle.std.proofs.Common.{◌≡◌, ◌+◌, ◌≤◌, ◌++◌, List, length, map, All, vec_len}
use Rattle.std.specs.Prelude.{IsTrue}
use Rattle.std.specs.List.{IsDistinct}
use Rattle.std.specs.Vec.{vec_capacity}
use Rattle.std.specs.Vec.Iter.{into_iter_items, into_iter_len}
use Rattle.request_journal.specs.declared.mapping.Mapping.{Mapping}
use Rattle.mapping_store.specs.Ids.{all_differ}
use Rattle.mapping_store.specs.Kept.{Adds, Fits, have_one_id, placed_of}
use Rattle.mapping_store.proofs.several.replace_all.Given as goal

abbrev pub invariant-loop-mapping : goal.invariant-loop-mapping
invariant-loop-mapping l = record {
  counted : into_iter_len l.mapping-iterator ≡ length (into_iter_items l.mapping-iterator);
  whole : l.fn.mappings.items ≡ l.yielded ++ into_iter_items l.mapping-iterator;
  index : l.index ≡ length l.yielded;
  fresh : IsTrue l.are_new → IsTrue (all_differ
      (map (λ e. e.id) l.entries.items ++ map (λ m. m.id) (into_iter_items l.mapping-iterator)));
  ids : IsDistinct have_one_id l.entries.items;
  fit : (defaults : List Mapping) → All (Fits defaults) l.fn.entries.items → All (Fits defaults) l.entries.items;
  added : Adds l.number (map placed_of l.fn.entries.items) l.yielded (map placed_of l.entries.items);
  few : vec_len l.entries ≤ vec_len l.fn.entries + l.index;
  capacity : vec_capacity l.fn.entries ≤ vec_capacity l.entries;
}
