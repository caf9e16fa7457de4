use Rattle.std.proofs.Common.{drop}
use Rattle.data_tree.specs.Tree.{items_view}
use Rattle.json_match.proofs.Counting.{StillTakes}
use Rattle.json_match.proofs.counts.each_takes_same.Given as goal

abbrev pub invariant-loop-item : goal.invariant-loop-item
invariant-loop-item l =
    StillTakes (items_view l.fn.expected.items) (items_view l.fn.actual.items)
    (items_view (drop l.item-index l.item-items)) l.counts
