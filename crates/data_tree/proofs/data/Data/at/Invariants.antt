use Rattle.std.proofs.Common.{◌≡◌, drop}
use Rattle.data_tree.specs.Tree.{view}
use Rattle.data_tree.specs.LookUp.{at}
use Rattle.data_tree.specs.WellFormed.{IsWellFormed}
use Rattle.data_tree.proofs.data.Data.at.Given as goal

-- the steps that are left find here what all of them find
abbrev pub invariant-loop-step : goal.invariant-loop-step
invariant-loop-step l = record {
  found : at (drop l.step-index l.steps) (view l.here) ≡ at l.steps (view l.self);
  well_formed : IsWellFormed (view l.here);
}
