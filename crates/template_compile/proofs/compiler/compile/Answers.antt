use Rattle.std.proofs.Common.{◌≡◌, ℕ, ◌<◌, ◌≤◌, ◌↔◌, arith}
use Rattle.std.specs.Prelude.{Bool, true, false}
use Rattle.template_tree.specs.Template.{tree_of}
use Rattle.template_compile.proofs.NodeLayout.{stack_code-well_formed, stack_code-within_limits}
use Rattle.template_compile.proofs.NodeRuns.{stack_code-runs}
use Rattle.template_compile.proofs.compiler.compile.Goals as goal

at_most : (b : Bool) (limit n : ℕ) → ((b ≡ true) ↔ (limit < n)) → b ≡ false → n ≤ limit
at_most b limit n h e = grind arith

pub returns-clause-runs : goal.returns-clause-runs
returns-clause-runs c =
    rw (c.in_ok-translate.ensures, c.into_nodes-nodes.ensures.nodes)
    (stack_code-runs (tree_of c.args.template) c.into_nodes-nodes.ensures.sound)

pub returns-clause-well_formed : goal.returns-clause-well_formed
returns-clause-well_formed c =
    let short =
    at_most _ _ _ (rw c.into_nodes-nodes.ensures.nodes at c.is_too_long.ensures)
    c.if-is_too_long.false in
    rw (c.in_ok-translate.ensures, c.into_nodes-nodes.ensures.nodes)
    (stack_code-well_formed (tree_of c.args.template)
    c.into_nodes-nodes.ensures.sound short)

pub returns-clause-within_limits : goal.returns-clause-within_limits
returns-clause-within_limits c =
    let short =
    at_most _ _ _ (rw c.into_nodes-nodes.ensures.nodes at c.is_too_long.ensures)
    c.if-is_too_long.false in
    rw (c.in_ok-translate.ensures, c.into_nodes-nodes.ensures.nodes)
    (stack_code-within_limits (tree_of c.args.template)
    c.into_nodes-nodes.ensures.sound short)
