use Rattle.std.proofs.Common.{◌+◌, ℕ, length, sym, ap, ◌∙◌, arith}
use Rattle.request_journal.specs.Past.{Past, with_events}
use Rattle.book_history.specs.Kept.{Kept}
use Rattle.book_history.proofs.CheckpointLemmas.{is_checkpoint, is_checkpoint_of}
use Rattle.book_history.proofs.history.History.checkpoint.Goals as goal

pub invariant_of-self : goal.invariant_of-self
invariant_of-self c =
    let parts = c.self.inside.parts in
    record {
      base = ap (λ (p : Past). p.base.number) c.checkpoint.ensures.known
          ∙ (is_checkpoint (with_events parts.known.past parts.events.items.items)).same_number
          ∙ ap (λ (n : ℕ). n + length parts.events.items.items) c.self.invariant.base
          ∙ sym c.checkpoint.ensures.base;
      limit = omega (arith, c.checkpoint.ensures.base, ap length c.checkpoint.ensures.empty, c.self.invariant.limit);
    }

pub returns-clause-checkpoint : goal.returns-clause-checkpoint
returns-clause-checkpoint c =
    let parts = c.self.inside.parts in
    is_checkpoint_of c.args.self.now.past (with_events parts.known.past parts.events.items.items)
    c.checkpoint.new.self.known.past c.checkpoint.new.self.events.items.items
    (ap (λ (k : Kept). k.past) c.self.view_is) c.checkpoint.ensures.known c.checkpoint.ensures.empty
