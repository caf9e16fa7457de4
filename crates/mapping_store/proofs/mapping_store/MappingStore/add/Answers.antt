use Rattle.std.proofs.Common.{refl, arith}
use Rattle.mapping_store.proofs.StoreLemmas.{after_add, kept_replaced}
use Rattle.mapping_store.proofs.mapping_store.MappingStore.add.Goals as goal

pub invariant_of-self : goal.invariant_of-self
invariant_of-self c = record {
  lasts_are = c.self.invariant.lasts_are;
  kept = kept_replaced c.self.inside.defaults.items c.own.result c.self.inside.live.items c.replace.new.entries.items
      c.self.invariant.kept (c.own.ensures.fits c.self.inside.defaults.items) c.replace.ensures.put
      c.replace.ensures.in_order;
  room = omega (arith, c.self.invariant.room, c.replace.ensures.capacity);
}

pub returns : goal.returns
returns c = rw (← c.self.view_is) (record {
  same_defaults = refl;
  live = after_add c.args.number c.args.mapping c.own.result c.self.inside.live.items c.replace.new.entries.items
      c.own.ensures.placed c.replace.ensures.put;
})
