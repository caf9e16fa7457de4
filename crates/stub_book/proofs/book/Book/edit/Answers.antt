use Rattle.std.proofs.Common.{◌+◌, ◌∙◌, refl, sym, ap, subst}
use Rattle.mapping_model.specs.declared.mapping_spec.MappingSpec.{MappingSpec}
use Rattle.mapping_store.specs.Stored.{Follows}
use Rattle.request_journal.specs.Legal.{IsLive}
use Rattle.request_journal.specs.Past.{Past, last_number}
use Rattle.request_journal.specs.declared.event.Event.TheVariants as event
use Rattle.request_journal.specs.declared.input.BookInput.TheVariants as input
use Rattle.request_journal.specs.declared.mapping.Mapping.{Mapping}
use Rattle.stub_book.proofs.Fits.{fits_added, grew}
use Rattle.stub_book.proofs.NextLemmas.{next_plain}
use Rattle.stub_book.proofs.ApplyLemmas.{accepts}
use Rattle.stub_book.proofs.book.Book.edit.Goals as goal

pub invariant_of-self-2 : goal.invariant_of-self-2
invariant_of-self-2 c =
    let past = c.self.inside.history.past in
    let ok = c.in_ok-made.ensures.ok in
    let held = subst (λ (p : Past). IsLive p c.args.id) (sym c.self.view_is) c.in_ok-has_mapping.ensures.ok in
    let kept = c.in_ok-spec.ensures.cases ∙ c.shared.ensures in
    let given = ap (λ (s : MappingSpec). event.Edit c.args.id s) kept in
    let same = ok.0.is ∙ given in
    fits_added past c.prepare.new.history.past c.push_reserved.new.self.past (event.Edit c.args.id c.args.mapping)
    c.in_ok-made.made.event c.self.inside.store c.edit-found.new.self c.self.inside.scenarios c.self.inside.scenarios
    c.self.inside.recording c.self.inside.recording
    c.prepare.ensures.same same c.push_reserved.ensures c.self.invariant
    (next_plain past (event.Edit c.args.id c.args.mapping) held refl c.self.invariant.few_live ok.2)
    (subst (λ (m : Mapping).
    Follows c.self.inside.store c.edit-found.new.self (last_number past + 1) (event.Edit m.id m.spec))
    c.in_ok-edited.ensures (c.edit-found.ensures.after (last_number past + 1)))
    (λ name. refl) refl

pub returns-clause-ok : goal.returns-clause-ok
returns-clause-ok c =
    let past = c.self.inside.history.past in
    let ok = c.in_ok-made.ensures.ok in
    let held = subst (λ (p : Past). IsLive p c.args.id) (sym c.self.view_is) c.in_ok-has_mapping.ensures.ok in
    let kept = c.in_ok-spec.ensures.cases ∙ c.shared.ensures in
    let given = ap (λ (s : MappingSpec). event.Edit c.args.id s) kept in
    let same = ok.0.is ∙ given in
    accepts c.args.self.now c.push_reserved.new.self.past (input.Edit c.args.id c.args.mapping)
    (event.Edit c.args.id c.in_ok-spec.spec) (event.Edit c.args.id c.args.mapping) c.in_ok-made.made ok.0
    given (refl, refl)
    (grew c.args.self.now past c.prepare.new.history.past c.push_reserved.new.self.past
    (event.Edit c.args.id c.args.mapping)
    c.in_ok-made.made.event c.self.view_is c.prepare.ensures.same same c.push_reserved.ensures refl
    (next_plain past (event.Edit c.args.id c.args.mapping) held refl c.self.invariant.few_live ok.2))
