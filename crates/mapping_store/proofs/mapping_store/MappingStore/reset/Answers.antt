use Rattle.std.proofs.Common.{refl, map}
use Rattle.mapping_store.specs.Kept.{placed_of}
use Rattle.mapping_store.proofs.StoreLemmas.{after_reset}
use Rattle.mapping_store.proofs.mapping_store.MappingStore.reset.Goals as goal

pub returns : goal.returns
returns c = rw (← c.self.view_is) (record {
  same_defaults = refl;
  live = after_reset c.args.number c.self.inside.defaults.items (map placed_of c.self.inside.live.items)
      (map placed_of c.put_defaults.new.entries.items) (rw c.as_slice.ensures.value at c.put_defaults.ensures.added);
})
