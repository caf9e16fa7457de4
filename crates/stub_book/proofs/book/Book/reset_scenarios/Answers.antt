use Rattle.std.proofs.Common.{◌+◌, refl}
use Rattle.request_journal.specs.Past.{last_number}
use Rattle.request_journal.specs.declared.event.Event.TheVariants as event
use Rattle.request_journal.specs.declared.input.BookInput.TheVariants as input
use Rattle.stub_book.proofs.Fits.{fits_added, follows_same, grew}
use Rattle.stub_book.proofs.LeftLemmas.{left_all}
use Rattle.stub_book.proofs.NextLemmas.{next_plain}
use Rattle.stub_book.proofs.ApplyLemmas.{accepts}
use Rattle.stub_book.proofs.book.Book.reset_scenarios.Goals as goal

pub invariant_of-self-2 : goal.invariant_of-self-2
invariant_of-self-2 c =
    let past = c.self.inside.history.past in
    let store = c.self.inside.store in
    let ok = c.in_ok-made.ensures.ok in
    fits_added past c.prepare.new.history.past c.push_reserved.new.self.past
    event.ResetScenarios c.in_ok-made.made.event
    store store c.self.inside.scenarios c.reset.new.self c.self.inside.recording c.self.inside.recording
    c.prepare.ensures.same ok.0.is c.push_reserved.ensures c.self.invariant
    (next_plain past event.ResetScenarios tt refl c.self.invariant.few_live ok.2)
    (follows_same store (last_number past + 1) event.ResetScenarios
    (left_all event.ResetScenarios (λ id. refl) (λ placed. refl) store.live) refl)
    c.reset.ensures.started refl

pub returns-clause-ok : goal.returns-clause-ok
returns-clause-ok c =
    let past = c.self.inside.history.past in
    let ok = c.in_ok-made.ensures.ok in
    accepts c.args.self.now c.push_reserved.new.self.past (input.ResetScenarios) (event.ResetScenarios)
    (event.ResetScenarios) c.in_ok-made.made ok.0 refl tt
    (grew c.args.self.now past c.prepare.new.history.past c.push_reserved.new.self.past
    event.ResetScenarios c.in_ok-made.made.event
    c.self.view_is c.prepare.ensures.same ok.0.is c.push_reserved.ensures refl
    (next_plain past event.ResetScenarios tt refl c.self.invariant.few_live ok.2))
