use Rattle.std.proofs.Common.{refl, arith}
use Rattle.mapping_store.proofs.StoreLemmas.{after_delete, found_taken, kept_without}
use Rattle.mapping_store.proofs.mapping_store.MappingStore.remove.Goals as goal

pub invariant_of-self : goal.invariant_of-self
invariant_of-self c = record {
  lasts_are = c.self.invariant.lasts_are;
  kept = rw c.take_out.ensures.rest
      (kept_without c.self.inside.defaults.items c.args.id c.self.inside.live.items c.self.invariant.kept);
  room = omega (arith, c.self.invariant.room, c.take_out.ensures.capacity);
}

pub returns-clause-found : goal.returns-clause-found
returns-clause-found c =
    rw (← c.self.view_is, c.is_some.ensures)
    (found_taken c.args.id c.self.inside.live.items c.take_out.new.entries.items
    c.take_out.result c.take_out.ensures.taken)

pub returns-clause-after : goal.returns-clause-after
returns-clause-after c = λ number. rw (← c.self.view_is) (record {
  same_defaults = refl;
  live = after_delete c.args.id c.self.inside.live.items c.take_out.new.entries.items c.take_out.ensures.rest;
})
