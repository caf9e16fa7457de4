use Rattle.std.proofs.Common.{◌≡◌, Some, None, refl, sym, ap, ◌∙◌, arith}
use Rattle.request_journal.specs.Past.{Placed}
use Rattle.mapping_store.proofs.StoreLemmas.{after_edit, after_no_edit, found_taken, kept_without, kept_put}
use Rattle.mapping_store.proofs.mapping_store.MappingStore.edit.Goals as goal

pub put_in-requires-clause-room : goal.put_in-requires-clause-room
put_in-requires-clause-room c =
    omega (arith, c.in-Some.ensures.len, c.take_out.ensures.capacity, c.self.ranges)

pub put_in-requires-clause-in_order : goal.put_in-requires-clause-in_order
put_in-requires-clause-in_order c =
    rw c.take_out.ensures.rest
    (kept_without c.self.inside.defaults.items c.id.result c.self.inside.live.items c.self.invariant.kept).in_order

pub invariant_of-self : goal.invariant_of-self
invariant_of-self c =
    let defaults = c.self.inside.defaults.items in
    let same : c.id.result ≡ c.own.result.id =
    c.id.ensures ∙ sym (ap (λ (p : Placed). p.mapping.id) c.own.ensures.placed) in
    record {
      lasts_are = c.self.invariant.lasts_are;
      kept = kept_put defaults c.id.result c.own.result c.self.inside.live.items c.take_out.new.entries.items
          c.put_in.new.entries.items c.self.invariant.kept c.take_out.ensures.rest same (c.own.ensures.fits defaults)
          c.put_in.ensures.put c.put_in.ensures.in_order;
      room = omega (arith, c.self.invariant.room, c.take_out.ensures.capacity, c.put_in.ensures.capacity);
    }

pub invariant_of-self-in-None-1 : goal.invariant_of-self-in-None-1
invariant_of-self-in-None-1 c = record {
  lasts_are = c.self.invariant.lasts_are;
  kept = rw c.take_out.ensures.rest
      (kept_without c.self.inside.defaults.items c.id.result c.self.inside.live.items c.self.invariant.kept);
  room = omega (arith, c.self.invariant.room, c.take_out.ensures.capacity);
}

pub returns-in-Some-clause-found : goal.returns-in-Some-clause-found
returns-in-Some-clause-found c =
    rw (← c.self.view_is, ← c.id.ensures)
    (found_taken c.id.result c.self.inside.live.items c.take_out.new.entries.items (Some c.in-Some.old)
    c.in-Some.ensures.taken)

pub returns-in-Some-clause-after : goal.returns-in-Some-clause-after
returns-in-Some-clause-after c = λ number.
    let taken = rw c.id.ensures at c.in-Some.ensures.taken in
    let rest = rw c.id.ensures at c.take_out.ensures.rest in
    rw (← c.self.view_is) (record {
      same_defaults = refl;
      live = after_edit c.args.mapping c.in-Some.old c.own.result c.self.inside.live.items c.take_out.new.entries.items
          c.put_in.new.entries.items taken.0 taken.1 rest c.own.ensures.placed c.put_in.ensures.put;
    })

pub returns-in-None-clause-found : goal.returns-in-None-clause-found
returns-in-None-clause-found c =
    rw (← c.self.view_is, ← c.id.ensures)
    (found_taken c.id.result c.self.inside.live.items c.take_out.new.entries.items None c.in-None.ensures.taken)

pub returns-in-None-clause-after : goal.returns-in-None-clause-after
returns-in-None-clause-after c = λ number.
    let none = rw c.id.ensures at c.in-None.ensures.taken in
    let rest = rw c.id.ensures at c.take_out.ensures.rest in
    rw (← c.self.view_is) (record {
      same_defaults = refl;
      live = after_no_edit c.args.mapping c.self.inside.live.items c.take_out.new.entries.items none rest;
    })
