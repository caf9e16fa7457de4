use Rattle.std.proofs.Common.{◌≡◌, ◌+◌, drop, ap, ◌∙◌, sym, subst, arith}
use Rattle.data_tree.specs.Tree.{view, nothing}
use Rattle.data_tree.specs.LookUp.{at, after}
use Rattle.data_tree.specs.WellFormed.{IsWellFormed}
use Rattle.data_tree.proofs.Lookups.{at_nothing, at_first}
use Rattle.data_tree.proofs.Formed.{formed_after}
use Rattle.data_tree.proofs.data.Data.at.Goals as goal

pub loop-step-preserved : goal.loop-step-preserved
loop-step-preserved c =
    let l = c.loop-step in
    let rest = drop (l.step-index + 1) c.args.steps.now in
    let first = at_first c.args.steps.now l.step-index c.step-item.result (view l.here.now)
    (omega arith) c.step-item.is in
    let found : view c.in_ok-here.here.now ≡ after c.step-item.result (view l.here.now) = c.in_ok-here.ensures in
    record {
      found = ap (at rest) found ∙ sym first ∙ l.invariant.found;
      well_formed = subst IsWellFormed (sym found)
          (formed_after c.step-item.result (view l.here.now) l.invariant.well_formed);
    }

pub returns-in_err-here-clause-found : goal.returns-in_err-here-clause-found
returns-in_err-here-clause-found c =
    let l = c.loop-step in
    let rest = drop (l.step-index + 1) c.args.steps.now in
    let first = at_first c.args.steps.now l.step-index c.step-item.result (view l.here.now)
    (omega arith) c.step-item.is in
    let found : nothing ≡ after c.step-item.result (view l.here.now) = c.in_err-here.ensures in
    rw c.from_residual.ensures (sym (at_nothing rest) ∙ ap (at rest) found ∙ sym first ∙ l.invariant.found)
