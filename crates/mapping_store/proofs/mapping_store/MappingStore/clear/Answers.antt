use Rattle.std.proofs.Common.{refl, map, arith}
use Rattle.mapping_store.specs.Kept.{placed_of}
use Rattle.mapping_store.proofs.StoreLemmas.{after_clear, kept_nothing}
use Rattle.mapping_store.proofs.mapping_store.MappingStore.clear.Goals as goal

pub invariant_of-self : goal.invariant_of-self
invariant_of-self c = record {
  lasts_are = c.self.invariant.lasts_are;
  kept = kept_nothing c.self.inside.defaults.items c.clear.new.self.items c.clear.ensures.items;
  room = omega (arith, c.self.invariant.room, c.clear.ensures.capacity);
}

pub returns : goal.returns
returns c = λ number. rw (← c.self.view_is, c.clear.ensures.items) (record {
  same_defaults = refl;
  live = after_clear (map placed_of c.self.inside.live.items);
})
