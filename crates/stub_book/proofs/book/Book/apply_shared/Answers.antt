use Rattle.std.proofs.Common.{◌∙◌, ap, refl}
use Rattle.request_journal.specs.declared.event.Event.{Event}
use Rattle.stub_book.proofs.ApplyLemmas.{changes}
use Rattle.stub_book.specs.Inner.Counted.{fewer}
use Rattle.stub_book.proofs.book.Book.apply_shared.Goals as goal

pub returns-clause-ok : goal.returns-clause-ok
returns-clause-ok c =
    let accepted = c.in_ok-event.ensures.ok in
    let added : Event = c.in_ok-event.field-0.event in
    let before = c.live_count-before.result in
    let after = c.live_count.result in (
      accepted.asked_for,
      changes c.args.self.now c.accept.new.self added (record { event = added; replaced = c.fewer-replaced.result })
          before after accepted.grows refl c.live_count-before.ensures.count c.live_count.ensures.count
          (c.fewer-replaced.ensures ∙ ap (λ (e : Event). fewer e before after) c.event.ensures),
    )
