use Rattle.std.proofs.Common.{rules}
use Rattle.data_tree.proofs.Views.{view-List, not_empty-items}
use Rattle.data_tree.proofs.data.Data.is_true.Goals as goal

pub returns-in-List : goal.returns-in-List
returns-in-List c =
    rw (c.in-List.is, view-List c.in-List.items, c.is_empty-in-List.ensures)
    (not_empty-items c.in-List.items.items _ (search rules))
