use Rattle.std.proofs.Common.{sym, ◌∙◌, subst}
use Rattle.request_journal.specs.declared.event.Event.{Event}
use Rattle.shared_book.proofs.KeptLemmas.{dropped_by, lawful_entered, past_entered, was_entered}
use Rattle.shared_book.proofs.ReachedLemmas.{may_call}
use Rattle.shared_book.specs.Reached.{MayFollow}
use Rattle.shared_history.specs.History.{MayCall}
use Rattle.shared_history.specs.Sight.{Calls}
use Rattle.shared_book.proofs.locked.enter.Goals as goal

pub enter-requires : goal.enter-requires
enter-requires g c =
    subst (λ (e : Event). MayCall MayFollow c.args.history.now e) (sym c.event.ensures)
    (may_call g.L.Origin.origin c.args.book.now c.args.history.now c.args.changed.event c.requires.lawful
    (c.requires.grown.0, c.requires.grown.1, c.requires.grown.2.grows))

pub returns-clause-entered : goal.returns-clause-entered
returns-clause-entered g c =
    was_entered g.L.Origin.origin c.requires.grown.0 c.args.book.now c.args.history.now c.enter.new.self
    c.args.place.now c.enter.new.seat c.args.changed.event c.entered.result.receipt c.entered.result.replaced
    c.requires.lawful c.requires.grown.1
    c.requires.grown.2.grows
    (subst (λ (e : Event). Calls e c.args.place.now c.args.history.now c.enter.new.seat) c.event.ensures
    c.enter.ensures.calls)
    c.enter.ensures.whole c.enter.ensures.legal c.enter.ensures.seen c.entered.ensures.event
    c.entered.ensures.number (c.entered.ensures.replaced ∙ c.requires.grown.2.so_many)

pub returns-clause-base : goal.returns-clause-base
returns-clause-base g c =
    dropped_by g.L.Origin.origin c.requires.grown.0 c.args.book.now c.args.history.now c.enter.new.self
    c.args.place.now c.enter.new.seat c.args.changed.event c.entered.result.base c.requires.grown.1 c.requires.grown.2.grows
    (subst (λ (e : Event). Calls e c.args.place.now c.args.history.now c.enter.new.seat) c.event.ensures
    c.enter.ensures.calls)
    c.enter.ensures.whole c.entered.ensures.base

pub returns-clause-lawful : goal.returns-clause-lawful
returns-clause-lawful g c =
    lawful_entered g.L.Origin.origin c.args.history.now c.enter.new.self c.args.place.now c.enter.new.seat
    c.args.changed.event c.requires.lawful
    (subst (λ (e : Event). Calls e c.args.place.now c.args.history.now c.enter.new.seat) c.event.ensures
    c.enter.ensures.calls)
    c.enter.ensures.whole c.enter.ensures.legal

pub returns-clause-past_of : goal.returns-clause-past_of
returns-clause-past_of g c =
    past_entered g.L.Origin.origin c.requires.grown.0 c.args.book.now c.args.history.now c.enter.new.self
    c.args.place.now c.enter.new.seat c.args.changed.event c.requires.grown.1 c.requires.grown.2.grows
    (subst (λ (e : Event). Calls e c.args.place.now c.args.history.now c.enter.new.seat) c.event.ensures
    c.enter.ensures.calls)
    c.enter.ensures.whole
