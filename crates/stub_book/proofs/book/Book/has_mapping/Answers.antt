use Rattle.std.proofs.Common.{◌≡◌, refl, sym, ap, subst}
use Rattle.std.proofs.lemmas.Bool.{false≢true}
use Rattle.request_journal.specs.Legal.{IsLive}
use Rattle.request_journal.specs.Past.{Past, Placed}
use Rattle.stub_book.specs.declared.error.BookError.{BookError}
use Rattle.stub_book.proofs.HeldLemmas.{live_some, stored_some}
use Rattle.stub_book.proofs.book.Book.has_mapping.Goals as goal

pub returns-then-not-holds-clause-why : goal.returns-then-not-holds-clause-why
returns-then-not-holds-clause-why c = (
  ap (λ (e : BookError). e.code) c.from.ensures,
  λ held. false≢true (c.if-not-holds.ensures.1
      (stored_some (λ (p : Placed). p.mapping.id ≡ c.args.id) c.self.inside.history.past c.self.inside.store.live
      c.self.invariant.same_live (subst (λ (p : Past). IsLive p c.args.id) (sym c.self.view_is) held))),
)

pub returns-clause-ok : goal.returns-clause-ok
returns-clause-ok c =
    subst (λ (p : Past). IsLive p c.args.id) c.self.view_is
    (live_some (λ (p : Placed). p.mapping.id ≡ c.args.id) c.self.inside.history.past c.self.inside.store.live
    c.self.invariant.same_live (c.if-not-holds.ensures.0 refl))
