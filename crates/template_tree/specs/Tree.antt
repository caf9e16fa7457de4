-- The tree of a template: pieces of text, prints, and the blocks `if`, `unless` and `each` with what is in them.
use Rattle.std.specs.Prelude.{ℕ, Bool, List, [], ◌∷◌, map}
use Rattle.template_tags.specs.declared.expression.Datum.{Datum}
use Rattle.template_tags.specs.Expression.{Expression, expression_view}
use Rattle.template_tree.specs.declared.escape.Escape.{Escape}
use Rattle.template_tree.specs.declared.node.Node as declared
use Rattle.template_tree.specs.declared.node.Node.{fold-Node}
use Rattle.template_tree.specs.declared.node.Node.TheOpen.{Node-F}

mutual
  -- a piece of text by its bytes; a print, marked by how the text of its value is escaped; an `if`, or an `unless`
  -- where that is true, with the part that is written where its test holds and maybe its else part; a loop over the
  -- items of a value, with its body and maybe the else part that is written where there is no item
  pub data Node : Type 0 where
    piece : List ℕ → Node
    print : Escape → Expression → Node
    if_then : Bool → Expression → Nodes → Node
    if_else : Bool → Expression → Nodes → Nodes → Node
    each : Datum → Nodes → Node
    each_else : Datum → Nodes → Nodes → Node

  pub data Nodes : Type 0 where
    no_nodes : Nodes
    first_node : Node → Nodes → Nodes

abbrev pub nodes_of : List Node → Nodes
nodes_of [] = no_nodes
nodes_of (n ∷ ns) = first_node n (nodes_of ns)

-- one level, with each node inside already seen
abbrev pub view_step : Node-F Node → Node
view_step (Node-F.Piece text) = piece text
view_step (Node-F.Print escape e) = print escape (expression_view e)
view_step (Node-F.If unless test body) = if_then unless (expression_view test) (nodes_of body.items)
view_step (Node-F.IfElse unless test body otherwise) =
    if_else unless (expression_view test) (nodes_of body.items) (nodes_of otherwise.items)
view_step (Node-F.Each over body) = each over (nodes_of body.items)
view_step (Node-F.EachElse over body otherwise) = each_else over (nodes_of body.items) (nodes_of otherwise.items)

abbrev pub node_view : declared.Node → Node
node_view = fold-Node Node view_step

abbrev pub nodes_view : List declared.Node → Nodes
nodes_view ns = nodes_of (map node_view ns)
