use Rattle.std.proofs.Common.{refl}
use Rattle.scenario_core.proofs.EntryLemmas.{name_at}
use Rattle.scenario_core.proofs.Moves.{move_by_set, move_by_insert}
use Rattle.scenario_core.proofs.scenarios.Scenarios.move_to.Goals as goal

-- the scenario was moved before, and its entry is written over
pub invariant_of-self : goal.invariant_of-self
invariant_of-self c =
    let at = rw c.deref.ensures.value at c.in-Ok.ensures.found in
    let name = name_at _ _ _ _ at c.index_mut.ensures.value in
    (move_by_set _ c.self.invariant _ _ _ _ at name refl).in_order

pub returns-in_ok-state-in-Ok-clause-ok : goal.returns-in_ok-state-in-Ok-clause-ok
returns-in_ok-state-in-Ok-clause-ok c =
    let at = rw c.deref.ensures.value at c.in-Ok.ensures.found in
    let name = name_at _ _ _ _ at c.index_mut.ensures.value in
    rw (← c.self.view_is) (move_by_set _ c.self.invariant _ _ _ _ at name c.in_ok-state-in-Ok.ensures.ok).moves

-- it was not, and gets an entry
pub invariant_of-self-in-Err : goal.invariant_of-self-in-Err
invariant_of-self-in-Err c =
    let gap = rw c.deref.ensures.value at c.in-Err.ensures.absent in
    rw c.in_ok-insert-in-Err.ensures.items
    (move_by_insert _ c.self.invariant _ _ _ _ gap c.in_ok-name-in-Err.ensures.ok
    c.in_ok-state-in-Err.ensures.ok).in_order

pub returns-in_ok-insert-in-Err-clause-ok : goal.returns-in_ok-insert-in-Err-clause-ok
returns-in_ok-insert-in-Err-clause-ok c =
    let gap = rw c.deref.ensures.value at c.in-Err.ensures.absent in
    rw (c.in_ok-insert-in-Err.ensures.items, ← c.self.view_is)
    (move_by_insert _ c.self.invariant _ _ _ _ gap c.in_ok-name-in-Err.ensures.ok
    c.in_ok-state-in-Err.ensures.ok).moves
