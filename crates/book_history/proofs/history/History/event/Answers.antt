use Rattle.std.proofs.Common.{◌-◌, List, sym, ap, ◌∙◌, arith}
use Rattle.std.specs.List.{slice_get}
use Rattle.request_journal.specs.Journal.{event_at}
use Rattle.request_journal.specs.Past.{with_events}
use Rattle.request_journal.specs.declared.event.Event.{Event}
use Rattle.book_history.specs.Kept.{Kept}
use Rattle.book_history.proofs.EventLemmas.{event_kept, event_dropped, got}
use Rattle.book_history.proofs.history.History.event.Goals as goal

pub returns-then-number-self : goal.returns-then-number-self
returns-then-number-self c =
    let parts = c.self.inside.parts in
    sym (event_dropped (with_events parts.known.past parts.events.items.items) parts.base c.args.number
    c.self.invariant.base (omega (arith, c.if-number-self.true)))
    ∙ ap (λ (k : Kept). event_at k.past c.args.number) c.self.view_is

pub returns : goal.returns
returns c =
    let parts = c.self.inside.parts in
    got _ _ _ c.get.ensures.lookup
    ∙ ap (λ (es : List Event). slice_get es (c.args.number - parts.base - 1)) c.as_slice.ensures.value
    ∙ sym (event_kept (with_events parts.known.past parts.events.items.items) parts.base c.args.number
    c.self.invariant.base (omega (arith, c.if-number-self.false)))
    ∙ ap (λ (k : Kept). event_at k.past c.args.number) c.self.view_is
