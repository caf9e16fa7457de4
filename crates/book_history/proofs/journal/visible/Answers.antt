use Rattle.std.proofs.Common.{◌≡◌, None, Some, sym, ap, ◌∙◌, arith, rules}
use Rattle.request_journal.specs.Journal.{clears}
use Rattle.book_history.specs.Inner.Shown.{found_by}
use Rattle.book_history.proofs.TurnLemmas.{at_clear, past_none, past_some}
use Rattle.book_history.proofs.journal.visible.Goals as goal

pub returns-then-clears : goal.returns-then-clears
returns-then-clears c =
    let event = c.index-events-left.result in
    at_clear (found_by c.args.shown) c.args.before c.args.events.now c.loop-left.left c.loop-left.entries.items event
    (omega (arith, c.loop-left-test.true)) c.loop-left.invariant.0 c.loop-left.invariant.1 c.index-events-left.is
    (sym (ap clears c.event-event.ensures) ∙ sym c.clears.ensures ∙ c.if-clears.true)

pub loop-left-preserved-in_ok-push : goal.loop-left-preserved-in_ok-push
loop-left-preserved-in_ok-push c =
    let event = c.index-events-left.result in (
      omega (arith, c.loop-left.invariant.0),
      past_some (found_by c.args.shown) c.args.before c.args.events.now c.loop-left.left c.loop-left.entries.items event
          (omega (arith, c.loop-left-test.true)) c.loop-left.invariant.0 c.loop-left.invariant.1 c.index-events-left.is
          (sym (ap clears c.event-event.ensures) ∙ sym c.clears.ensures ∙ c.if-clears.false)
          c.in_ok-clone.field-0
          (sym (ap (found_by c.args.shown) c.event-event.ensures) ∙ sym c.in-Some.ensures
          ∙ ap Some (sym c.in_ok-clone.ensures.cases))
          c.push.new.self.items c.in_ok-push.ensures.items,
    )

pub loop-left-preserved : goal.loop-left-preserved
loop-left-preserved c =
    let event = c.index-events-left.result in
    let none : found_by c.args.shown c.event-event.result.now ≡ None = search rules in (
      omega (arith, c.loop-left.invariant.0),
      past_none (found_by c.args.shown) c.args.before c.args.events.now c.loop-left.left c.loop-left.entries.items event
          (omega (arith, c.loop-left-test.true)) c.loop-left.invariant.0 c.loop-left.invariant.1 c.index-events-left.is
          (sym (ap clears c.event-event.ensures) ∙ sym c.clears.ensures ∙ c.if-clears.false)
          (sym (ap (found_by c.args.shown) c.event-event.ensures) ∙ none),
    )
