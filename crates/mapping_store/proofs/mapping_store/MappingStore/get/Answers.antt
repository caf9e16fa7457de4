use Rattle.std.proofs.Common.{◌≡◌, None, refl, sym, ap, ◌∙◌}
use Rattle.request_journal.specs.Past.{Placed}
use Rattle.mapping_store.specs.declared.entry.Entry.{Entry}
use Rattle.mapping_store.proofs.StoreLemmas.{any_at, any_with_id, found_index}
use Rattle.mapping_store.proofs.mapping_store.MappingStore.get.Goals as goal

pub returns-in_err-at-clause-live : goal.returns-in_err-at-clause-live
returns-in_err-at-clause-live c =
    let none = rw c.as_slice.ensures.value at c.in_err-at.ensures in
    rw (← c.self.view_is, c.from_residual.ensures) (found_index c.args.id c.self.inside.live.items None none)

pub returns-clause-live : goal.returns-clause-live
returns-clause-live c =
    let found = rw c.as_slice.ensures.value at c.in_ok-at.ensures in
    rw (← c.self.view_is)
    (λ some. any_with_id c.args.id c.self.inside.live.items c.in_ok-at.at found.0 found.1, λ any. refl)

pub returns-clause-found : goal.returns-clause-found
returns-clause-found c =
    let found = rw c.as_slice.ensures.value at c.in_ok-at.ensures in
    let e : Entry = c.index.result.now in
    rw (← c.self.view_is)
    (any_at (λ (p : Placed). (p.mapping.id ≡ c.args.id) × (p.mapping.spec ≡ c.spec_of.result.now))
    c.self.inside.live.items c.in_ok-at.at e found.0 c.index.ensures
    (ap (λ (x : Entry). x.id) c.index.ensures ∙ found.1 e, sym c.spec_of.ensures))
