use Rattle.std.proofs.Common.{◌≤◌, ◌+◌, ◌∙◌, ℕ, inr, refl, sym, ap, subst, unwrap_or, length}
use Rattle.mapping_model.specs.MappingId.{event_id}
use Rattle.mapping_store.specs.Stored.{Follows}
use Rattle.request_journal.specs.Live.{live}
use Rattle.request_journal.specs.Legal.{IsNext}
use Rattle.request_journal.specs.Past.{Past, with_event}
use Rattle.request_journal.specs.declared.event.Event.TheVariants as event
use Rattle.request_journal.specs.declared.input.BookInput.TheVariants as input
use Rattle.request_journal.specs.declared.limits.TheConstants.{LIVE_LIMIT}
use Rattle.request_journal.specs.declared.mapping.Mapping.{Mapping}
use Rattle.stub_book.specs.Refusals.{IsTooMany}
use Rattle.std.proofs.lemmas.Result.{err_from_is_err_and}
use Rattle.stub_book.proofs.Fits.{fits_added, fits_roomier, fits_same, grew, number_of_next}
use Rattle.stub_book.proofs.ApplyLemmas.{accepts}
use Rattle.stub_book.proofs.book.Book.add.Goals as goal

pub invariant_of-self-2 : goal.invariant_of-self-2
invariant_of-self-2 c =
    let past = c.self.inside.history.past in
    let store = c.reserve.new.self in
    let ok = c.in_ok-made.ensures.ok in
    let m : Mapping = record { id = c.in_ok-id.id; spec = c.args.mapping } in
    let number = number_of_next past past c.last_number-number.result refl c.last_number-number.ensures.value in
    let few = c.in_ok-has_place.ensures.ok m refl in
    let next : IsNext past (event.Add m) = record {
      answer = c.in_ok-id.ensures ∙ ap (λ (n : ℕ). unwrap_or c.args.mapping.id (event_id n)) number;
      few_live = subst (λ (p : Past). length (live (with_event p (event.Add m))) ≤ LIVE_LIMIT)
          (sym c.self.view_is) few;
      has_room = ok.2;
    } in
    let given = ap (λ (n : Mapping). event.Add n) (c.in_ok-copy.ensures ∙ c.in_ok-added.ensures) in
    let same = ok.0.is ∙ given in
    fits_added past c.prepare.new.history.past c.push_reserved.new.self.past (event.Add m) c.in_ok-made.made.event
    store c.add.new.self c.self.inside.scenarios c.self.inside.scenarios c.self.inside.recording c.self.inside.recording
    c.prepare.ensures.same same c.push_reserved.ensures
    (fits_roomier past c.self.inside.store store c.self.inside.scenarios c.self.inside.recording
    c.reserve.ensures.same_defaults c.reserve.ensures.same_live c.self.invariant)
    next
    (subst (λ (n : ℕ). Follows store c.add.new.self n (event.Add m)) number
    (subst (λ (n : Mapping). Follows store c.add.new.self (c.last_number-number.result + 1) (event.Add n))
    c.in_ok-added.ensures c.add.ensures))
    (λ name. refl) refl

pub returns-clause-ok : goal.returns-clause-ok
returns-clause-ok c =
    let past = c.self.inside.history.past in
    let ok = c.in_ok-made.ensures.ok in
    let m : Mapping = record { id = c.in_ok-id.id; spec = c.args.mapping } in
    let number = number_of_next past past c.last_number-number.result refl c.last_number-number.ensures.value in
    let few = c.in_ok-has_place.ensures.ok m refl in
    let next : IsNext past (event.Add m) = record {
      answer = c.in_ok-id.ensures ∙ ap (λ (n : ℕ). unwrap_or c.args.mapping.id (event_id n)) number;
      few_live = subst (λ (p : Past). length (live (with_event p (event.Add m))) ≤ LIVE_LIMIT)
          (sym c.self.view_is) few;
      has_room = ok.2;
    } in
    let given = ap (λ (n : Mapping). event.Add n) (c.in_ok-copy.ensures ∙ c.in_ok-added.ensures) in
    let same = ok.0.is ∙ given in
    accepts c.args.self.now c.push_reserved.new.self.past (input.Add c.args.mapping)
    (event.Add c.in_ok-copy.copy) (event.Add m) c.in_ok-made.made ok.0 given refl
    (grew c.args.self.now past c.prepare.new.history.past c.push_reserved.new.self.past
    (event.Add m) c.in_ok-made.made.event
    c.self.view_is c.prepare.ensures.same same c.push_reserved.ensures refl next)

-- more would be live than there may be
pub returns-in_err-has_place-clause-why : goal.returns-in_err-has_place-clause-why
returns-in_err-has_place-clause-why c =
    let m : Mapping = record { id = c.in_ok-id.id; spec = c.args.mapping } in
    let number =
    number_of_next c.args.self.now c.self.inside.history.past c.last_number-number.result c.self.view_is
    c.last_number-number.ensures.value in
    let why = c.in_err-has_place.ensures.why in
    let many : IsTooMany c.args.self.now (input.Add c.args.mapping) = record {
      event = event.Add m;
      asked_for = refl;
      answer = c.in_ok-id.ensures ∙ ap (λ (n : ℕ). unwrap_or c.args.mapping.id (event_id n)) number;
      too_many = why.1 m refl;
    } in
    let p = err_from_is_err_and c.from_residual-in_err-has_place.result c.from_residual-in_err-has_place.ensures.1 in
    rw (p.1, p.2) (inr (c.in_ok-has_number.ensures.ok, inr (why.0, many)))

-- there is more room in the store, and the history is as before
pub invariant_of-self-in_err-made : goal.invariant_of-self-in_err-made
invariant_of-self-in_err-made c =
    let past = c.self.inside.history.past in
    fits_same c.prepare.new.history.past past c.reserve.new.self c.self.inside.scenarios c.self.inside.recording
    c.prepare.ensures.same
    (fits_roomier past c.self.inside.store c.reserve.new.self c.self.inside.scenarios c.self.inside.recording
    c.reserve.ensures.same_defaults c.reserve.ensures.same_live c.self.invariant)
