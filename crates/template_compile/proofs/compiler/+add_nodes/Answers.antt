use Rattle.std.proofs.Common.{arith}
use Rattle.std.proofs.lemmas.Result.{on_ok_weaker}
use Rattle.template_tags.specs.Expression.{expression_view}
use Rattle.template_tree.proofs.Views.{view_if, view_if_else, view_each, view_each_else}
use Rattle.template_tree.specs.Tree.{node_view, nodes_view}
use Rattle.template_compile.specs.Compiled.{nodes_code}
use Rattle.template_compile.specs.Inner.Drafts.{extended_by}
use Rattle.template_compile.proofs.Drafts.{node-steps, if-steps, if_else-steps, each-steps, each_else-steps}
use Rattle.template_compile.proofs.compiler.+add_nodes.Goals as goal

pub add_node-returns-in_ok-branch_over-in-If : goal.add_node-returns-in_ok-branch_over-in-If
add_node-returns-in_ok-branch_over-in-If t c =
    let x = c.in-If in
    rw (x.is, view_if x.unless x.test x.then)
    (on_ok_weaker c.add_nodes.result
    (λ added. if-steps x.unless (expression_view x.test) (nodes_view x.then.items) c.nodes_length.result
    c.args.draft.now c.add_test.new.draft c.branch_over.new.self c.add_nodes.new.draft c.nodes_length.ensures
    c.in_ok-add_test-in-If.ensures c.in_ok-branch_over-in-If.ensures added)
    c.add_nodes.ensures)

pub add_node-returns-in_ok-jump_over-in-IfElse : goal.add_node-returns-in_ok-jump_over-in-IfElse
add_node-returns-in_ok-jump_over-in-IfElse t c =
    let x = c.in-IfElse in
    rw (x.is, view_if_else x.unless x.test x.then x.otherwise)
    (on_ok_weaker c.add_nodes-in-IfElse-2.result
    (λ added. if_else-steps x.unless (expression_view x.test) (nodes_view x.then.items) (nodes_view x.otherwise.items)
    c.nodes_length-in-IfElse.result c.nodes_length-in-IfElse-2.result c.args.draft.now c.add_test-in-IfElse.new.draft
    c.branch_over-in-IfElse.new.self c.add_nodes-in-IfElse.new.draft c.jump_over.new.self
    c.add_nodes-in-IfElse-2.new.draft c.nodes_length-in-IfElse.ensures c.nodes_length-in-IfElse-2.ensures
    c.in_ok-add_test-in-IfElse.ensures c.in_ok-branch_over-in-IfElse.ensures c.in_ok-add_nodes-in-IfElse.ensures
    c.in_ok-jump_over-in-IfElse.ensures added)
    c.add_nodes-in-IfElse-2.ensures)

pub add_node-returns-in_ok-add_nodes-in-Each : goal.add_node-returns-in_ok-add_nodes-in-Each
add_node-returns-in_ok-add_nodes-in-Each t c =
    let x = c.in-Each in
    rw (x.is, view_each x.over x.body)
    (on_ok_weaker c.again.result
    (λ closed. each-steps x.over (nodes_view x.body.items) c.nodes_length-size.result c.args.draft.now
    c.add_datum.new.draft c.each_over.new.self c.add_nodes-in-Each.new.draft c.again.new.self
    c.nodes_length-size.ensures c.in_ok-add_datum-in-Each.ensures c.in_ok-each_over-in-Each.ensures
    c.in_ok-add_nodes-in-Each.ensures closed)
    c.again.ensures)

pub add_node-returns-in_ok-jump_over-in-EachElse : goal.add_node-returns-in_ok-jump_over-in-EachElse
add_node-returns-in_ok-jump_over-in-EachElse t c =
    let x = c.in-EachElse in
    rw (x.is, view_each_else x.over x.body x.otherwise)
    (on_ok_weaker c.add_nodes-in-EachElse-2.result
    (λ added. each_else-steps x.over (nodes_view x.body.items) (nodes_view x.otherwise.items)
    c.nodes_length-size-in-EachElse.result c.nodes_length-in-EachElse.result c.args.draft.now
    c.add_datum-in-EachElse.new.draft c.each_over-in-EachElse.new.self c.add_nodes-in-EachElse.new.draft
    c.again-in-EachElse.new.self c.jump_over-in-EachElse.new.self c.add_nodes-in-EachElse-2.new.draft
    c.nodes_length-size-in-EachElse.ensures c.nodes_length-in-EachElse.ensures c.in_ok-add_datum-in-EachElse.ensures
    c.in_ok-each_over-in-EachElse.ensures c.in_ok-add_nodes-in-EachElse.ensures c.in_ok-again-in-EachElse.ensures
    c.in_ok-jump_over-in-EachElse.ensures added)
    c.add_nodes-in-EachElse-2.ensures)

pub add_nodes-loop-node-preserved : goal.add_nodes-loop-node-preserved
add_nodes-loop-node-preserved t c =
    let rest = nodes_view c.next.new.self.rest.items in
    let node = node_view c.in-Some.node in
    let short = rw c.in-Some.ensures.steps.0 at c.loop-node.invariant.short in
    record {
      short = omega (arith, short);
      whole =
          node-steps node rest c.loop-node.draft c.add_node.new.draft
          (extended_by c.args.draft.now (nodes_code (nodes_view c.args.nodes.items))) c.in_ok-add_node.ensures
          (rw c.in-Some.ensures.steps.0 at c.loop-node.invariant.whole);
    }
