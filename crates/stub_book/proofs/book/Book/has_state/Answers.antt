use Rattle.std.proofs.Common.{inl, inr, refl, sym, ap, ◌∙◌, subst}
use Rattle.std.specs.List.{Any}
use Rattle.std.proofs.lemmas.Bool.{false≢true}
use Rattle.std.proofs.lemmas.Slice.Eq.{bytes_eq-Decides}
use Rattle.scenario_core.specs.Scenarios.{started}
use Rattle.request_journal.specs.Live.{live}
use Rattle.request_journal.specs.Past.{Past, Placed}
use Rattle.request_journal.specs.State.{IsIn, Names, IsKnown}
use Rattle.stub_book.specs.declared.error.BookError.{BookError}
use Rattle.stub_book.proofs.HeldLemmas.{live_some, stored_some}
use Rattle.stub_book.proofs.book.Book.has_state.Goals as goal

pub returns-then-not-knows-clause-why : goal.returns-then-not-knows-clause-why
returns-then-not-knows-clause-why c =
    let past = c.self.inside.history.past in
    inl (
      ap (λ (e : BookError). e.code) c.from.ensures,
      λ known. false≢true (c.if-not-knows.ensures.1
          (stored_some (λ (p : Placed). IsIn c.args.name.now p.mapping.spec.scenario) past c.self.inside.store.live
          c.self.invariant.same_live (subst (λ (p : Past). IsKnown p c.args.name.now) (sym c.self.view_is) known))),
    )

pub returns-then-eq-clause-ok : goal.returns-then-eq-clause-ok
returns-then-eq-clause-ok c =
    let past = c.self.inside.history.past in
    let known : IsKnown past c.args.name.now =
    live_some (λ (p : Placed). IsIn c.args.name.now p.mapping.spec.scenario) past c.self.inside.store.live
    c.self.invariant.same_live (c.if-not-knows.ensures.0 refl) in (
      subst (λ (p : Past). IsKnown p c.args.name.now) c.self.view_is known,
      inl ((bytes_eq-Decides c.args.state.now started).0 (sym c.if-eq.ensures)),
    )

pub returns-then-not-names-clause-why : goal.returns-then-not-names-clause-why
returns-then-not-names-clause-why c =
    let past = c.self.inside.history.past in
    let known : IsKnown past c.args.name.now =
    live_some (λ (p : Placed). IsIn c.args.name.now p.mapping.spec.scenario) past c.self.inside.store.live
    c.self.invariant.same_live (c.if-not-knows.ensures.0 refl) in
    inr (
      ap (λ (e : BookError). e.code) c.from-then-not-names.ensures,
      subst (λ (p : Past). IsKnown p c.args.name.now) c.self.view_is known,
      λ has. elim has.1 as (λ _. ⊥) [
        | inl is ↦ false≢true (c.if-eq.ensures ∙ (bytes_eq-Decides c.args.state.now started).1 is)
        | inr named ↦ false≢true (c.if-not-names.ensures.1
            (stored_some (λ (p : Placed). Names c.args.name.now c.args.state.now p.mapping.spec.scenario) past
            c.self.inside.store.live c.self.invariant.same_live
            (subst (λ (p : Past). Any
            (λ (q : Placed). Names c.args.name.now c.args.state.now q.mapping.spec.scenario) (live p))
            (sym c.self.view_is) named)))
      ],
    )

pub returns-clause-ok : goal.returns-clause-ok
returns-clause-ok c =
    let past = c.self.inside.history.past in
    let known : IsKnown past c.args.name.now =
    live_some (λ (p : Placed). IsIn c.args.name.now p.mapping.spec.scenario) past c.self.inside.store.live
    c.self.invariant.same_live (c.if-not-knows.ensures.0 refl) in (
      subst (λ (p : Past). IsKnown p c.args.name.now) c.self.view_is known,
      inr (subst (λ (p : Past).
          Any (λ (q : Placed). Names c.args.name.now c.args.state.now q.mapping.spec.scenario) (live p))
          c.self.view_is
          (live_some (λ (p : Placed). Names c.args.name.now c.args.state.now p.mapping.spec.scenario) past
          c.self.inside.store.live c.self.invariant.same_live (c.if-not-names.ensures.0 refl))),
    )
