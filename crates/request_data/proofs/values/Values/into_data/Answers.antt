use Rattle.std.proofs.Common.{refl, ap, ◌∙◌}
use Rattle.request_data.specs.Grouped.{values_tree}
use Rattle.request_data.proofs.RunFieldLemmas.{view_of_values}
use Rattle.request_data.proofs.values.Values.into_data.Goals as goal

pub returns-clause-tree : goal.returns-clause-tree
returns-clause-tree c =
    view_of_values c.self.inside.items c.self.invariant ∙ ap values_tree c.self.view_is

pub returns-clause-holds : goal.returns-clause-holds
returns-clause-holds c = record {
  items = c.self.inside.items;
  is = refl;
  texts = c.self.invariant;
  same = c.self.view_is;
}
