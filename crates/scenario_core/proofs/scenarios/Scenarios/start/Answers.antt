use Rattle.scenario_core.proofs.Moves.{move_by_remove}
use Rattle.scenario_core.proofs.StateLemmas.{nothing_moves}
use Rattle.scenario_core.proofs.scenarios.Scenarios.start.Goals as goal

pub invariant_of-self : goal.invariant_of-self
invariant_of-self c =
    let at = rw c.deref.ensures.value at c.in-Ok.ensures.found in
    rw c.remove-entry.ensures.items (move_by_remove _ c.self.invariant _ _ c.remove-entry.result at).in_order

pub returns-in-Ok : goal.returns-in-Ok
returns-in-Ok c =
    let at = rw c.deref.ensures.value at c.in-Ok.ensures.found in
    rw (c.remove-entry.ensures.items, ← c.self.view_is)
    (move_by_remove _ c.self.invariant _ _ c.remove-entry.result at).moves

pub returns-in_default : goal.returns-in_default
returns-in_default c =
    let gap = rw c.deref.ensures.value at c.in_default.ensures.absent in
    rw (← c.self.view_is) (nothing_moves _ c.self.invariant _ _ gap)
