use Rattle.std.proofs.Common.{◌≤◌, ◌+◌, ℕ, List, length, refl, sym, subst}
use Rattle.mapping_store.specs.Stored.{Follows}
use Rattle.request_journal.specs.Legal.{IsAnswer, IsNext}
use Rattle.request_journal.specs.Live.{live}
use Rattle.request_journal.specs.Past.{Past, last_number, with_event}
use Rattle.request_journal.specs.declared.event.Event.{Event}
use Rattle.request_journal.specs.declared.event.Event.TheVariants as event
use Rattle.request_journal.specs.declared.input.BookInput.TheVariants as input
use Rattle.request_journal.specs.declared.limits.TheConstants.{LIVE_LIMIT}
use Rattle.request_journal.specs.declared.mapping.Mapping.{Mapping}
use Rattle.stub_book.proofs.ApplyLemmas.{accepts}
use Rattle.stub_book.proofs.Fits.{fits_added, fits_roomier, fits_same, grew, number_of_next}
use Rattle.stub_book.proofs.StateLemmas.{after_stop}
use Rattle.stub_book.proofs.book.Book.stop_recording.Goals as goal

pub invariant_of-self-2 : goal.invariant_of-self-2
invariant_of-self-2 c =
    let past = c.self.inside.history.past in
    let store = c.reserve.new.self in
    let old = c.self.inside.recording in
    let ok = c.in_ok-made.ensures.ok in
    let stubs = c.in_ok-stubs.stubs in
    let e : Event = event.StopRecording stubs.mappings stubs.skipped in
    let number = number_of_next past past c.last_number-number.result refl c.last_number-number.ensures.value in
    let next : IsNext past e = record {
      answer = subst (λ (p : Past). IsAnswer p e) (sym c.self.view_is) c.in_ok-stubs.ensures.ok;
      few_live = subst (λ (p : Past). length (live (with_event p e)) ≤ LIVE_LIMIT)
          (sym c.self.view_is) c.in_ok-has_places.ensures.ok;
      has_room = ok.2;
    } in
    fits_added past c.prepare.new.history.past c.push_reserved.new.self.past e c.in_ok-made.made.event
    store c.add_all.new.self c.self.inside.scenarios c.self.inside.scenarios old c.stop.new.self
    c.prepare.ensures.same ok.0.is c.push_reserved.ensures
    (fits_roomier past c.self.inside.store store c.self.inside.scenarios old
    c.reserve.ensures.same_defaults c.reserve.ensures.same_live c.self.invariant)
    next
    (subst (λ (n : ℕ). Follows store c.add_all.new.self n e) number
    (subst (λ (ms : List Mapping).
    Follows store c.add_all.new.self (c.last_number-number.result + 1) (event.StopRecording ms stubs.skipped))
    c.in_ok-stubs.ensures.same (c.add_all.ensures stubs.skipped)))
    (λ name. refl)
    (after_stop (last_number past + 1) stubs.skipped stubs.mappings old c.stop.new.self c.in-Ok.ensures.ok)

pub returns-clause-ok : goal.returns-clause-ok
returns-clause-ok c =
    let past = c.self.inside.history.past in
    let ok = c.in_ok-made.ensures.ok in
    let stubs = c.in_ok-stubs.stubs in
    let e : Event = event.StopRecording stubs.mappings stubs.skipped in
    let next : IsNext past e = record {
      answer = subst (λ (p : Past). IsAnswer p e) (sym c.self.view_is) c.in_ok-stubs.ensures.ok;
      few_live = subst (λ (p : Past). length (live (with_event p e)) ≤ LIVE_LIMIT)
          (sym c.self.view_is) c.in_ok-has_places.ensures.ok;
      has_room = ok.2;
    } in
    accepts c.args.self.now c.push_reserved.new.self.past input.StopRecording e e c.in_ok-made.made ok.0 refl tt
    (grew c.args.self.now past c.prepare.new.history.past c.push_reserved.new.self.past e c.in_ok-made.made.event
    c.self.view_is c.prepare.ensures.same ok.0.is c.push_reserved.ensures refl next)

-- there is more room in the store, and the history is as before
pub invariant_of-self-in_err-made : goal.invariant_of-self-in_err-made
invariant_of-self-in_err-made c =
    let past = c.self.inside.history.past in
    fits_same c.prepare.new.history.past past c.reserve.new.self c.self.inside.scenarios c.self.inside.recording
    c.prepare.ensures.same
    (fits_roomier past c.self.inside.store c.reserve.new.self c.self.inside.scenarios c.self.inside.recording
    c.reserve.ensures.same_defaults c.reserve.ensures.same_live c.self.invariant)
