use Rattle.std.proofs.Common.{◌≡◌, ◌+◌, ◌≤◌, drop}
use Rattle.data_tree.specs.Tree.{Tree, items_view}
use Rattle.json_match.specs.Inner.Counts.{counted, times}
use Rattle.json_match.proofs.counts.count.Given as goal

-- what is counted and what is left are all
abbrev pub invariant-loop-item : goal.invariant-loop-item
invariant-loop-item l = record {
  few : (s : Tree) → counted l.counts s ≤ l.item-index;
  all : (s : Tree) → counted l.counts s + times s (items_view (drop l.item-index l.item-items))
      ≡ times s (items_view l.fn.items.items);
}
