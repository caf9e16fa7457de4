use Rattle.std.proofs.Common.{◌+◌, refl}
use Rattle.request_journal.specs.Past.{last_number}
use Rattle.request_journal.specs.declared.event.Event.TheVariants as event
use Rattle.request_journal.specs.declared.input.BookInput.TheVariants as input
use Rattle.stub_book.proofs.Fits.{fits_reset, follows_same, grew_cleared}
use Rattle.stub_book.proofs.LeftLemmas.{left_all}
use Rattle.stub_book.proofs.NextLemmas.{next_plain}
use Rattle.stub_book.proofs.ApplyLemmas.{accepts}
use Rattle.stub_book.proofs.book.Book.clear_journal.Goals as goal

pub invariant_of-self-2 : goal.invariant_of-self-2
invariant_of-self-2 c =
    let past = c.self.inside.history.past in
    let store = c.self.inside.store in
    let ok = c.in_ok-made.ensures.ok in
    fits_reset past c.prepare.new.history.past c.checkpoint.new.self.past c.push_reserved.new.self.past
    event.ClearJournal c.in_ok-made.made.event store store c.self.inside.scenarios
    c.self.inside.scenarios c.self.inside.recording
    c.prepare.ensures.same ok.0.is c.checkpoint.ensures.checkpoint c.push_reserved.ensures refl c.self.invariant
    (next_plain past event.ClearJournal tt refl c.self.invariant.few_live ok.2)
    (follows_same store (last_number past + 1) event.ClearJournal
    (left_all event.ClearJournal (λ id. refl) (λ placed. refl) store.live) refl)
    (λ name. refl) refl

pub returns-clause-ok : goal.returns-clause-ok
returns-clause-ok c =
    let past = c.self.inside.history.past in
    let ok = c.in_ok-made.ensures.ok in
    accepts c.args.self.now c.push_reserved.new.self.past (input.ClearJournal) (event.ClearJournal) (event.ClearJournal)
    c.in_ok-made.made ok.0 refl tt
    (grew_cleared c.args.self.now past c.prepare.new.history.past
    c.checkpoint.new.self.past c.push_reserved.new.self.past
    event.ClearJournal c.in_ok-made.made.event
    c.self.view_is c.prepare.ensures.same ok.0.is c.checkpoint.ensures.checkpoint c.push_reserved.ensures refl
    (next_plain past event.ClearJournal tt refl c.self.invariant.few_live ok.2))
