use Rattle.std.proofs.Common.{List, arith}
use Rattle.std.proofs.lemmas.List.Sorted.{IsPermutation-trans, IsPermutation-map, All-permutation}
use Rattle.mapping_store.specs.declared.entry.Entry.{Entry}
use Rattle.mapping_store.specs.Kept.{Fits, placed_of}
use Rattle.mapping_store.proofs.IdLemmas.{distinct_alike}
use Rattle.mapping_store.proofs.several.put_all.Goals as goal

pub returns : goal.returns
returns c =
    let added : List Entry = c.replace_all.new.entries.items in
    let sorted : List Entry = c.sort.new.entries.items in
    record {
      in_order = c.sort.ensures.in_order;
      ids = distinct_alike added sorted c.sort.ensures.same c.replace_all.ensures.ids;
      fit = λ defaults all. All-permutation (Fits defaults) added sorted c.sort.ensures.same
          (c.replace_all.ensures.fit defaults all);
      added = IsPermutation-trans _ _ _ c.replace_all.ensures.added
          (IsPermutation-map placed_of added sorted c.sort.ensures.same);
      capacity = omega (arith, c.replace_all.ensures.capacity, c.sort.ensures.capacity);
    }
