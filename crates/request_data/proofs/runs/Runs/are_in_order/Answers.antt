use Rattle.std.proofs.Common.{ℕ, List, subst}
use Rattle.std.specs.Bool.{OnTrue}
use Rattle.data_tree.specs.declared.data.Data.{Data}
use Rattle.request_data.specs.Inner.RunFields.{runs_in}
use Rattle.request_data.specs.Inner.Runs.{AreInOrder}
use Rattle.request_data.proofs.runs.Runs.are_in_order.Goals as goal

pub returns : goal.returns
returns c =
    rw (← c.self.view_is)
    (subst (λ (fields : List (List ℕ × Data)). OnTrue c.ascend.result (AreInOrder (runs_in fields)))
    c.as_slice.ensures.value c.ascend.ensures)
