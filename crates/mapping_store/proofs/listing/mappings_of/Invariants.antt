use Rattle.std.proofs.Common.{◌≡◌, ◌++◌, length, map}
use Rattle.std.specs.Vec.Iter.{into_iter_items, into_iter_len}
use Rattle.request_journal.specs.Past.{Placed}
use Rattle.mapping_store.proofs.listing.mappings_of.Given as goal

abbrev pub invariant-loop-one : goal.invariant-loop-one
invariant-loop-one l = record {
  counted : into_iter_len l.one-iterator ≡ length (into_iter_items l.one-iterator);
  whole : map (λ (p : Placed). p.mapping) l.fn.listed.items
      ≡ l.mappings.items ++ map (λ (p : Placed). p.mapping) (into_iter_items l.one-iterator);
}
