use Rattle.std.proofs.Common.{◌≡◌, ◌+◌, ◌<◌, ◌∙◌, refl, sym, subst}
use Rattle.request_journal.specs.Choice.{IsChoice}
use Rattle.request_journal.specs.Past.{Past, last_number}
use Rattle.request_journal.specs.declared.event.Event.{Event}
use Rattle.request_journal.specs.declared.event.Event.TheVariants as event
use Rattle.request_journal.specs.declared.limits.TheConstants.{NUMBER_LIMIT}
use Rattle.stub_book.specs.Growth.{Grows}
use Rattle.stub_book.proofs.Fits.{fits_added, follows_same, grew}
use Rattle.stub_book.proofs.LeftLemmas.{left_all}
use Rattle.stub_book.proofs.NextLemmas.{next_plain}
use Rattle.stub_book.proofs.book.Book.add_served.Goals as goal

pub invariant_of-self-2 : goal.invariant_of-self-2
invariant_of-self-2 c =
    let past = c.self.inside.history.past in
    let store = c.self.inside.store in
    let e : Event = event.Serve c.args.request c.args.answer in
    let choice : IsChoice past c.args.request c.args.answer =
    subst (λ (p : Past). IsChoice p c.args.request c.args.answer) (sym c.self.view_is) c.requires in
    let room : last_number past < NUMBER_LIMIT =
    subst (λ (p : Past). last_number p < NUMBER_LIMIT) c.reserve.ensures.same c.in_ok-reserve.ensures.ok.1 in
    let same : c.in_ok-event.event ≡ e = c.in_ok-event.ensures in
    fits_added past c.reserve.new.self.past c.push_reserved.new.self.past e c.in_ok-event.event
    store store c.self.inside.scenarios c.move_scenario.new.scenarios
    c.self.inside.recording c.self.inside.recording
    c.reserve.ensures.same same c.push_reserved.ensures c.self.invariant
    (next_plain past e choice refl c.self.invariant.few_live room)
    (follows_same store (last_number past + 1) e (left_all e (λ id. refl) (λ placed. refl) store.live) refl)
    (c.in_ok-move_scenario.ensures.ok c.args.request c.args.answer (c.event.ensures ∙ same)) refl

pub returns-clause-ok : goal.returns-clause-ok
returns-clause-ok c =
    let past = c.self.inside.history.past in
    let e : Event = event.Serve c.args.request c.args.answer in
    let choice : IsChoice past c.args.request c.args.answer =
    subst (λ (p : Past). IsChoice p c.args.request c.args.answer) (sym c.self.view_is) c.requires in
    let room : last_number past < NUMBER_LIMIT =
    subst (λ (p : Past). last_number p < NUMBER_LIMIT) c.reserve.ensures.same c.in_ok-reserve.ensures.ok.1 in
    let same : c.in_ok-event.event ≡ e = c.in_ok-event.ensures in
    let shared : c.in_ok-shared.shared ≡ e = c.in_ok-shared.ensures.cases ∙ same in (
      shared,
      subst (λ (served : Event). Grows c.args.self.now c.push_reserved.new.self.past served) (sym shared)
          (grew c.args.self.now past c.reserve.new.self.past c.push_reserved.new.self.past e c.in_ok-event.event
          c.self.view_is c.reserve.ensures.same same c.push_reserved.ensures refl
          (next_plain past e choice refl c.self.invariant.few_live room)),
    )
