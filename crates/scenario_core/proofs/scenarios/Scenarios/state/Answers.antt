use Rattle.std.proofs.Common.{sym, ◌∙◌}
use Rattle.scenario_core.proofs.Moves.{state_of_entry}
use Rattle.scenario_core.proofs.StateLemmas.{state_in_gap}
use Rattle.scenario_core.proofs.scenarios.Scenarios.state.Goals as goal

pub returns-in-Ok : goal.returns-in-Ok
returns-in-Ok c =
    let at = rw c.deref.ensures.value at c.in-Ok.ensures.found in
    rw (← c.self.view_is) (c.as_str.ensures.value ∙ state_of_entry _ c.self.invariant _ _ _ at c.index.ensures)

pub returns-in-Err : goal.returns-in-Err
returns-in-Err c =
    let gap = rw c.deref.ensures.value at c.in-Err.ensures.absent in
    rw (← c.self.view_is) (sym (state_in_gap _ c.self.invariant _ _ gap))
