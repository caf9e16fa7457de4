-- A node, level by level, beside the tree that it is seen as.
use Rattle.std.proofs.Common.{◌≡◌, Bool, Vec, Box, Global, rules}
use Rattle.helper_set.specs.declared.helper.Helper.{Helper}
use Rattle.template_tags.specs.declared.expression.Datum.{Datum}
use Rattle.template_tags.specs.declared.expression.Expression as tags
use Rattle.template_tags.specs.declared.expression.Expression.{Expression}
use Rattle.template_tags.specs.Expression.{expression_view, call, call_two}
use Rattle.template_tree.specs.declared.node.Node as kinds
use Rattle.template_tree.specs.declared.node.Node.{Node}
use Rattle.template_tree.specs.Tree.{node_view, nodes_view, if_then, if_else, each, each_else}

pub view_call : (h : Helper) (e : Box Expression Global)
    → expression_view (tags.Call h e) ≡ call h (expression_view e.value)
view_call h e = search (rules, tags.the_lemmas)

pub view_call_two :
    (h : Helper) (e f : Box Expression Global)
    → expression_view (tags.CallTwo h e f) ≡ call_two h (expression_view e.value) (expression_view f.value)
view_call_two h e f = search (rules, tags.the_lemmas)

pub view_if :
    (unless : Bool) (test : Expression) (body : Vec Node Global)
    → node_view (kinds.If unless test body) ≡ if_then unless (expression_view test) (nodes_view body.items)
view_if unless test body = search (rules, kinds.the_lemmas)

pub view_if_else :
    (unless : Bool) (test : Expression) (body otherwise : Vec Node Global)
    → node_view (kinds.IfElse unless test body otherwise)
    ≡ if_else unless (expression_view test) (nodes_view body.items) (nodes_view otherwise.items)
view_if_else unless test body otherwise = search (rules, kinds.the_lemmas)

pub view_each :
    (over : Datum) (body : Vec Node Global) → node_view (kinds.Each over body) ≡ each over (nodes_view body.items)
view_each over body = search (rules, kinds.the_lemmas)

pub view_each_else :
    (over : Datum) (body otherwise : Vec Node Global)
    → node_view (kinds.EachElse over body otherwise)
    ≡ each_else over (nodes_view body.items) (nodes_view otherwise.items)
view_each_else over body otherwise = search (rules, kinds.the_lemmas)
