use Rattle.std.proofs.Common.{◌+◌, refl, subst}
use Rattle.mapping_store.specs.Stored.{Follows}
use Rattle.request_journal.specs.Past.{last_number}
use Rattle.request_journal.specs.declared.event.Event.TheVariants as event
use Rattle.request_journal.specs.declared.input.BookInput.TheVariants as input
use Rattle.stub_book.proofs.Fits.{fits_reset, follows_reset, grew_cleared, number_of_next}
use Rattle.stub_book.proofs.NextLemmas.{next_reset}
use Rattle.stub_book.proofs.ApplyLemmas.{accepts}
use Rattle.stub_book.proofs.book.Book.reset_all.Goals as goal

pub invariant_of-self-2 : goal.invariant_of-self-2
invariant_of-self-2 c =
    let past = c.self.inside.history.past in
    let kept = c.prepare.new.history.past in
    let ok = c.in_ok-made.ensures.ok in
    fits_reset past kept c.checkpoint.new.self.past c.push_reserved.new.self.past
    event.ResetAll c.in_ok-made.made.event c.self.inside.store c.reset.new.self
    c.self.inside.scenarios c.reset-2.new.self
    c.self.inside.recording
    c.prepare.ensures.same ok.0.is c.checkpoint.ensures.checkpoint c.push_reserved.ensures refl c.self.invariant
    (next_reset past event.ResetAll tt (λ id. refl) refl c.self.invariant.few_defaults ok.2)
    (follows_reset c.self.inside.store c.reset.new.self (last_number past + 1)
    (subst (λ n. Follows c.self.inside.store c.reset.new.self n event.ResetMappings)
    (number_of_next past kept c.last_number.result c.prepare.ensures.same c.last_number.ensures.value) c.reset.ensures))
    c.reset-2.ensures.started refl

pub returns-clause-ok : goal.returns-clause-ok
returns-clause-ok c =
    let past = c.self.inside.history.past in
    let ok = c.in_ok-made.ensures.ok in
    accepts c.args.self.now c.push_reserved.new.self.past (input.ResetAll) (event.ResetAll) (event.ResetAll)
    c.in_ok-made.made ok.0 refl tt
    (grew_cleared c.args.self.now past c.prepare.new.history.past
    c.checkpoint.new.self.past c.push_reserved.new.self.past
    event.ResetAll c.in_ok-made.made.event
    c.self.view_is c.prepare.ensures.same ok.0.is c.checkpoint.ensures.checkpoint c.push_reserved.ensures refl
    (next_reset past event.ResetAll tt (λ id. refl) refl c.self.invariant.few_defaults ok.2))
