-- The tree that a `Template` is.
use Rattle.template_tree.specs.declared.template.Template.{Template}
use Rattle.template_tree.specs.Tree.{Nodes, nodes_view}

abbrev pub tree_of : Template → Nodes
tree_of t = nodes_view t.nodes.items
