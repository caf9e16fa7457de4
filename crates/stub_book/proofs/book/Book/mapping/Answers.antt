use Rattle.std.proofs.Common.{◌≡◌, refl, sym, subst}
use Rattle.std.specs.List.{Any}
use Rattle.std.proofs.lemmas.Bool.{false≢true}
use Rattle.request_journal.specs.Legal.{IsLive}
use Rattle.request_journal.specs.Live.{live}
use Rattle.request_journal.specs.Past.{Past, Placed}
use Rattle.stub_book.proofs.HeldLemmas.{live_some, stored_some}
use Rattle.stub_book.proofs.book.Book.mapping.Goals as goal

pub returns-in-Some-clause-found : goal.returns-in-Some-clause-found
returns-in-Some-clause-found c =
    subst (λ (q : Past). Any
    (λ (p : Placed). (p.mapping.id ≡ c.args.id) × (p.mapping.spec ≡ c.in-Some.spec.now)) (live q))
    c.self.view_is
    (live_some (λ (p : Placed). (p.mapping.id ≡ c.args.id) × (p.mapping.spec ≡ c.in-Some.spec.now))
    c.self.inside.history.past c.self.inside.store.live c.self.invariant.same_live c.in-Some.ensures.found)

pub returns-in-Some-clause-unknown : goal.returns-in-Some-clause-unknown
returns-in-Some-clause-unknown c = (
  λ e. absurd (false≢true e),
  λ none. absurd (none (subst (λ (p : Past). IsLive p c.args.id) c.self.view_is
      (live_some (λ (p : Placed). p.mapping.id ≡ c.args.id) c.self.inside.history.past c.self.inside.store.live
      c.self.invariant.same_live (c.in-Some.ensures.live.0 refl)))),
)

pub returns-in-None-clause-unknown : goal.returns-in-None-clause-unknown
returns-in-None-clause-unknown c = (
  λ _ held. false≢true (c.in-None.ensures.live.1
      (stored_some (λ (p : Placed). p.mapping.id ≡ c.args.id) c.self.inside.history.past c.self.inside.store.live
      c.self.invariant.same_live (subst (λ (p : Past). IsLive p c.args.id) (sym c.self.view_is) held))),
  λ _. refl,
)
