use Rattle.std.proofs.Common.{refl, arith, map}
use Rattle.mapping_store.specs.Kept.{placed_of}
use Rattle.mapping_store.proofs.StoreLemmas.{after_add_all}
use Rattle.mapping_store.proofs.mapping_store.MappingStore.add_all.Goals as goal

pub invariant_of-self : goal.invariant_of-self
invariant_of-self c = record {
  lasts_are = c.self.invariant.lasts_are;
  kept = record {
    fit = c.put_all.ensures.fit c.self.inside.defaults.items c.self.invariant.kept.fit;
    ids = c.put_all.ensures.ids;
    in_order = c.put_all.ensures.in_order;
  };
  room = omega (arith, c.self.invariant.room, c.put_all.ensures.capacity);
}

pub returns : goal.returns
returns c = λ skipped. rw (← c.self.view_is) (record {
  same_defaults = refl;
  live = after_add_all c.args.number skipped c.args.mappings.items (map placed_of c.self.inside.live.items)
      (map placed_of c.put_all.new.entries.items) c.put_all.ensures.added;
})
