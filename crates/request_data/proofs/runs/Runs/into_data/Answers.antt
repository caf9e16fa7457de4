use Rattle.std.proofs.Common.{ap, sym, ◌∙◌, subst}
use Rattle.data_tree.proofs.Views.{view-Fields}
use Rattle.data_tree.specs.Tree.{fields, members_of}
use Rattle.request_data.specs.Grouped.{grouped}
use Rattle.request_data.specs.Inner.RunFields.{runs_in}
use Rattle.request_data.specs.Inner.Runs.{pairs_of_runs, AreInOrder}
use Rattle.request_data.proofs.RunFieldLemmas.{have_values, trees_of_runs}
use Rattle.request_data.proofs.RunLemmas.{grouped_in_order}
use Rattle.request_data.proofs.runs.Runs.into_data.Goals as goal

pub returns : goal.returns
returns c =
    let held = c.self.inside.fields in
    let runs = runs_in held.items in
    let order : AreInOrder runs = subst AreInOrder (sym c.self.view_is) c.requires in
    view-Fields held
    ∙ ap (λ es. fields (members_of es)) (trees_of_runs held.items c.self.invariant)
    ∙ ap fields (grouped_in_order runs order (have_values held.items c.self.invariant))
    ∙ ap (λ runs. grouped (pairs_of_runs runs)) c.self.view_is
