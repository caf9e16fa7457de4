use Rattle.std.proofs.Common.{List, map, sym, subst, arith, IsPermutation}
use Rattle.std.proofs.lemmas.List.Sorted.{IsPermutation-map, All-permutation}
use Rattle.request_journal.proofs.IdLemmas.{IdsDiffer, placed_differ}
use Rattle.mapping_store.specs.declared.entry.Entry.{Entry}
use Rattle.mapping_store.specs.Kept.{Fits, placed_of}
use Rattle.mapping_store.proofs.IdLemmas.{distinct_alike, distinct_placed}
use Rattle.mapping_store.proofs.defaults.put_defaults.Goals as goal

pub returns : goal.returns
returns c =
    let added : List Entry = c.push_defaults.new.entries.items in
    let sorted : List Entry = c.sort.new.entries.items in
    record {
      kept = record {
        fit = All-permutation (Fits c.args.defaults.now) added sorted c.sort.ensures.same c.push_defaults.ensures.fit;
        ids = distinct_alike added sorted c.sort.ensures.same
            (distinct_placed added (subst IdsDiffer (sym c.push_defaults.ensures.added)
            (placed_differ c.args.number 0 c.args.defaults.now)));
        in_order = c.sort.ensures.in_order;
      };
      added = subst (λ l. IsPermutation l (map placed_of sorted)) c.push_defaults.ensures.added
          (IsPermutation-map placed_of added sorted c.sort.ensures.same);
      capacity = omega (arith, c.push_defaults.ensures.capacity, c.sort.ensures.capacity);
    }
