use Rattle.std.proofs.Common.{◌≡◌, ◌≤◌}
use Rattle.template_code.specs.declared.limits.TheConstants.{MAX_INSTRUCTIONS}
use Rattle.template_compile.specs.Compiled.{nodes_code}
use Rattle.template_compile.specs.Inner.Drafts.{extended_by}
use Rattle.template_compile.specs.Inner.Length.{nodes_length}
use Rattle.template_tree.specs.Tree.{nodes_view}
use Rattle.template_compile.proofs.compiler.+add_nodes.Given as goal

-- the draft, with the code of the nodes that are left, is that with the code of all of them
abbrev pub invariant-add_nodes-loop-node : goal.invariant-add_nodes-loop-node
invariant-add_nodes-loop-node l = record {
  short : nodes_length (nodes_view l.node-iterator.rest.items) ≤ MAX_INSTRUCTIONS;
  whole : extended_by l.draft (nodes_code (nodes_view l.node-iterator.rest.items))
      ≡ extended_by l.initial.draft (nodes_code (nodes_view l.fn.nodes.items));
}
