use Rattle.std.proofs.Common.{◌≡◌, drop}
use Rattle.data_tree.specs.Tree.{items_view}
use Rattle.json_match.specs.Inner.Counts.{are_scalars}
use Rattle.json_match.proofs.counts.are_scalars.Given as goal

-- what is left decides
abbrev pub invariant-loop-item : goal.invariant-loop-item
invariant-loop-item l =
    are_scalars (items_view l.fn.items.items) ≡ are_scalars (items_view (drop l.item-index l.item-items))
