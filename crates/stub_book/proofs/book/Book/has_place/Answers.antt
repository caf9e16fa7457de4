use Rattle.std.proofs.Common.{◌≡◌, ◌≤◌, ◌<◌, ◌+◌, ℕ, List, length, refl, sym, ap, subst, arith}
use Rattle.std.specs.List.{Any}
use Rattle.std.proofs.lemmas.Bool.{false≢true}
use Rattle.std.proofs.lemmas.List.Sorted.{length_permutation}
use Rattle.request_journal.specs.Live.{live}
use Rattle.request_journal.specs.Past.{Past, Placed, with_event}
use Rattle.request_journal.specs.declared.event.Event.TheVariants as event
use Rattle.request_journal.specs.declared.limits.TheConstants.{LIVE_LIMIT}
use Rattle.stub_book.specs.declared.error.BookError.{BookError}
use Rattle.stub_book.proofs.HeldLemmas.{live_some, stored_some}
use Rattle.stub_book.proofs.LeftLemmas.{held_few, other_few, other_more}
use Rattle.stub_book.proofs.book.Book.has_place.Goals as goal

pub returns-then-len-lt-LIVE_LIMIT-clause-ok : goal.returns-then-len-lt-LIVE_LIMIT-clause-ok
returns-then-len-lt-LIVE_LIMIT-clause-ok c = λ mapping is.
    let past = c.self.inside.history.past in
    let many : length c.self.inside.store.live ≡ length (live past) =
    length_permutation (live past) c.self.inside.store.live c.self.invariant.same_live in
    let few : length (live (with_event past (event.Add mapping))) ≤ length (live past) + 1 = other_few past mapping in
    subst (λ (p : Past). length (live (with_event p (event.Add mapping))) ≤ LIVE_LIMIT) c.self.view_is
    (omega (arith, many, few))

pub returns-then-not-holds-clause-why : goal.returns-then-not-holds-clause-why
returns-then-not-holds-clause-why c = (
  ap (λ (e : BookError). e.code) c.from.ensures,
  λ mapping is.
      let past = c.self.inside.history.past in
      let store = c.self.inside.store in
      let many : length store.live ≡ length (live past) =
      length_permutation (live past) store.live c.self.invariant.same_live in
      let more : length (live (with_event past (event.Add mapping))) ≡ length (live past) + 1 =
      other_more past mapping (λ a. false≢true (c.if-not-holds.ensures.1
      (subst (λ (i : List ℕ). Any (λ (p : Placed). p.mapping.id ≡ i) store.live) is
      (stored_some (λ (p : Placed). p.mapping.id ≡ mapping.id) past store.live c.self.invariant.same_live a)))) in
      subst (λ (p : Past). LIVE_LIMIT < length (live (with_event p (event.Add mapping)))) c.self.view_is
      (omega (arith, many, more)),
)

pub returns-clause-ok : goal.returns-clause-ok
returns-clause-ok c = λ mapping is.
    let past = c.self.inside.history.past in
    let store = c.self.inside.store in
    let few : length (live (with_event past (event.Add mapping))) ≤ length (live past) =
    held_few past mapping (subst (λ (i : List ℕ). Any (λ (p : Placed). p.mapping.id ≡ i) (live past)) (sym is)
    (live_some (λ (p : Placed). p.mapping.id ≡ c.args.id) past store.live c.self.invariant.same_live
    (c.if-not-holds.ensures.0 refl))) in
    let most : length (live past) ≤ LIVE_LIMIT = c.self.invariant.few_live in
    subst (λ (p : Past). length (live (with_event p (event.Add mapping))) ≤ LIVE_LIMIT) c.self.view_is
    (omega (arith, few, most))
