use Rattle.std.proofs.Common.{refl, subst}
use Rattle.mapping_store.specs.Stored.{Follows}
use Rattle.request_journal.specs.declared.event.Event.TheVariants as event
use Rattle.request_journal.specs.declared.input.BookInput.TheVariants as input
use Rattle.stub_book.proofs.Fits.{fits_added, grew, number_of_next}
use Rattle.stub_book.proofs.NextLemmas.{next_reset}
use Rattle.stub_book.proofs.ApplyLemmas.{accepts}
use Rattle.stub_book.proofs.book.Book.reset_mappings.Goals as goal

pub invariant_of-self-2 : goal.invariant_of-self-2
invariant_of-self-2 c =
    let past = c.self.inside.history.past in
    let kept = c.prepare.new.history.past in
    let ok = c.in_ok-made.ensures.ok in
    fits_added past kept c.push_reserved.new.self.past event.ResetMappings c.in_ok-made.made.event
    c.self.inside.store c.reset.new.self c.self.inside.scenarios c.self.inside.scenarios
    c.self.inside.recording c.self.inside.recording
    c.prepare.ensures.same ok.0.is c.push_reserved.ensures c.self.invariant
    (next_reset past event.ResetMappings tt (λ id. refl) refl c.self.invariant.few_defaults ok.2)
    (subst (λ n. Follows c.self.inside.store c.reset.new.self n event.ResetMappings)
    (number_of_next past kept c.last_number.result c.prepare.ensures.same c.last_number.ensures.value) c.reset.ensures)
    (λ name. refl) refl

pub returns-clause-ok : goal.returns-clause-ok
returns-clause-ok c =
    let past = c.self.inside.history.past in
    let ok = c.in_ok-made.ensures.ok in
    accepts c.args.self.now c.push_reserved.new.self.past (input.ResetMappings) (event.ResetMappings)
    (event.ResetMappings) c.in_ok-made.made ok.0 refl tt
    (grew c.args.self.now past c.prepare.new.history.past c.push_reserved.new.self.past
    event.ResetMappings c.in_ok-made.made.event
    c.self.view_is c.prepare.ensures.same ok.0.is c.push_reserved.ensures refl
    (next_reset past event.ResetMappings tt (λ id. refl) refl c.self.invariant.few_defaults ok.2))
