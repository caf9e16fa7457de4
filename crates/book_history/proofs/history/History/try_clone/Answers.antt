use Rattle.std.proofs.Common.{length, ap, sym, ◌∙◌, arith}
use Rattle.request_journal.specs.Past.{Past, with_events}
use Rattle.book_history.specs.Kept.{Kept}
use Rattle.book_history.proofs.CheckpointLemmas.{checkpoint_of_none, number_of_copy}
use Rattle.book_history.proofs.history.History.try_clone.Goals as goal

pub invariant_of-result : goal.invariant_of-result
invariant_of-result c =
    let parts = c.self.inside.parts in
    record {
      base = ap (λ (p : Past). p.base.number) c.in_ok-try_clone.ensures.known
          ∙ number_of_copy parts.known.past parts.base c.self.invariant.base
          ∙ sym c.in_ok-try_clone.ensures.base;
      limit = omega (
        arith,
        c.in_ok-try_clone.ensures.base,
        ap length c.in_ok-try_clone.ensures.events,
        c.self.invariant.limit,
      );
    }

pub returns : goal.returns
returns c =
    let parts = c.self.inside.parts in
    (λ i. with_events (c.in_ok-try_clone.ensures.known i) (c.in_ok-try_clone.ensures.events i))
    ∙ checkpoint_of_none parts.known.past parts.events.items.items
    ∙ ap (λ (k : Kept). k.past) c.self.view_is
