use Rattle.std.proofs.Common.{◌≡◌, ◌+◌, drop}
use Rattle.template_compile.specs.Inner.Length.{nodes_length}
use Rattle.template_tree.specs.Tree.{nodes_view}
use Rattle.template_compile.proofs.length.+after_nodes.Given as goal

-- the room that is left is that for the nodes so far less
abbrev pub invariant-after_nodes-loop-node : goal.invariant-after_nodes-loop-node
invariant-after_nodes-loop-node l =
    l.rest + nodes_length (nodes_view l.node-items)
    ≡ l.room + nodes_length (nodes_view (drop l.node-index l.node-items))
