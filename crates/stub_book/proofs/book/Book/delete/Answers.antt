use Rattle.std.proofs.Common.{◌+◌, refl, sym, subst}
use Rattle.request_journal.specs.Legal.{IsLive}
use Rattle.request_journal.specs.Past.{Past, last_number}
use Rattle.request_journal.specs.declared.event.Event.TheVariants as event
use Rattle.request_journal.specs.declared.input.BookInput.TheVariants as input
use Rattle.stub_book.proofs.Fits.{fits_added, grew}
use Rattle.stub_book.proofs.NextLemmas.{next_plain}
use Rattle.stub_book.proofs.ApplyLemmas.{accepts}
use Rattle.stub_book.proofs.book.Book.delete.Goals as goal

pub invariant_of-self-2 : goal.invariant_of-self-2
invariant_of-self-2 c =
    let past = c.self.inside.history.past in
    let ok = c.in_ok-made.ensures.ok in
    let held = subst (λ (p : Past). IsLive p c.args.id) (sym c.self.view_is) c.in_ok-has_mapping.ensures.ok in
    fits_added past c.prepare.new.history.past c.push_reserved.new.self.past
    (event.Delete c.args.id) c.in_ok-made.made.event
    c.self.inside.store c.remove-found.new.self c.self.inside.scenarios c.self.inside.scenarios
    c.self.inside.recording c.self.inside.recording
    c.prepare.ensures.same ok.0.is c.push_reserved.ensures c.self.invariant
    (next_plain past (event.Delete c.args.id) held refl c.self.invariant.few_live ok.2)
    (c.remove-found.ensures.after (last_number past + 1)) (λ name. refl) refl

pub returns-clause-ok : goal.returns-clause-ok
returns-clause-ok c =
    let past = c.self.inside.history.past in
    let ok = c.in_ok-made.ensures.ok in
    let held = subst (λ (p : Past). IsLive p c.args.id) (sym c.self.view_is) c.in_ok-has_mapping.ensures.ok in
    accepts c.args.self.now c.push_reserved.new.self.past (input.Delete c.args.id) (event.Delete c.args.id)
    (event.Delete c.args.id) c.in_ok-made.made ok.0 refl refl
    (grew c.args.self.now past c.prepare.new.history.past c.push_reserved.new.self.past (event.Delete c.args.id)
    c.in_ok-made.made.event
    c.self.view_is c.prepare.ensures.same ok.0.is c.push_reserved.ensures refl
    (next_plain past (event.Delete c.args.id) held refl c.self.invariant.few_live ok.2))
