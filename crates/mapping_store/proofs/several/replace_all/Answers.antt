use Rattle.std.proofs.Common.{◌≡◌, ◌≢◌, ℕ, true, List, [], ◌∷◌, ◌++◌, length, map, All, refl, sym, ap, subst, ◌∙◌}
use Rattle.std.proofs.Common.{arith, rules, append_assoc}
use Rattle.std.specs.Vec.Iter.{into_iter_items}
use Rattle.std.proofs.lemmas.List.{length_push}
use Rattle.request_journal.specs.declared.mapping.Mapping.{Mapping}
use Rattle.mapping_store.specs.Ids.{all_differ}
use Rattle.mapping_store.specs.Kept.{placed_of}
use Rattle.mapping_store.specs.declared.entry.Entry.{Entry}
use Rattle.mapping_store.proofs.DifferLemmas.{moved, none_has}
use Rattle.mapping_store.proofs.SeveralLemmas.{at, adds_none, adds_entry, fit_replaced}
use Rattle.mapping_store.proofs.IdLemmas.{distinct_replaced}
use Rattle.mapping_store.proofs.several.replace_all.Goals as goal

abbrev id_of : Entry → List ℕ
id_of e = e.id

abbrev id_in : Mapping → List ℕ
id_in m = m.id

pub put_last-requires-clause-new : goal.put_last-requires-clause-new
put_last-requires-clause-new c = λ yes.
    let l = c.loop-mapping in
    let m = c.in-Some.mapping in
    let old = l.entries.items in
    subst (λ id. All (λ e. e.id ≢ id) old) (sym (ap (λ p. p.mapping.id) c.own.ensures.placed))
    (none_has id_of old m.id (map id_in (into_iter_items c.next.new.self))
    (sym (ap all_differ (ap (λ ms. map id_of old ++ map id_in ms) c.in-Some.ensures.steps.0))
    ∙ l.invariant.fresh yes))

pub loop-mapping-init : goal.loop-mapping-init
loop-mapping-init c = record {
  counted = search rules;
  whole = search rules;
  index = refl;
  fresh = λ yes.
      let whole : c.args.mappings.items ≡ into_iter_items c.into_iter-mapping-iterator.result = search rules in
      subst (λ ms. all_differ (map id_of c.args.entries.now.items ++ map id_in ms) ≡ true) whole
      (rw (c.as_slice.ensures.value, c.as_slice-2.ensures.value) at (c.are_new-are_new.ensures yes));
  ids = c.requires.ids;
  fit = λ defaults all. all;
  added = adds_none c.args.number (map placed_of c.args.entries.now.items);
  few = omega arith;
  capacity = omega arith;
}

pub loop-mapping-preserved : goal.loop-mapping-preserved
loop-mapping-preserved c =
    let l = c.loop-mapping in
    let m = c.in-Some.mapping in
    let e = c.own.result in
    let old = l.entries.items in
    let new = c.put_last.new.entries.items in
    let steps = c.in-Some.ensures.steps in
    record {
      counted = omega (arith, l.invariant.counted, steps.1, ap length steps.0);
      whole = l.invariant.whole ∙ ap (λ xs. l.yielded ++ xs) steps.0
          ∙ sym (append_assoc l.yielded (m ∷ []) (into_iter_items c.next.new.self));
      index = omega (arith, l.invariant.index, length_push l.yielded m);
      fresh = λ yes.
          sym (ap all_differ (ap (λ ms. map id_of old ++ map id_in ms) steps.0
          ∙ moved id_of id_in old e m (into_iter_items c.next.new.self) (ap (λ p. p.mapping.id) c.own.ensures.placed)
          ∙ ap (λ es. map id_of es ++ map id_in (into_iter_items c.next.new.self))
          (sym (c.put_last.ensures.last yes))))
          ∙ l.invariant.fresh yes;
      ids = distinct_replaced e old new c.put_last.ensures.put l.invariant.ids;
      fit = λ defaults all. fit_replaced defaults e old new c.put_last.ensures.put (c.own.ensures.fits defaults)
          (l.invariant.fit defaults all);
      added = adds_entry c.args.number (map placed_of c.args.entries.now.items) l.yielded m e old new
          (c.own.ensures.placed ∙ ap (λ n. at c.args.number n m) l.invariant.index) l.invariant.added
          c.put_last.ensures.put;
      few = omega (arith, l.invariant.few, c.put_last.ensures.len);
      capacity = omega (arith, l.invariant.capacity, c.put_last.ensures.capacity);
    }
