use Rattle.data_tree.specs.Tree.{view}
use Rattle.template_machine.proofs.Calls.{found-spelled}
use Rattle.template_machine.proofs.call.found_at.Goals as goal

pub returns : goal.returns
returns c =
    found-spelled (view c.args.root.now) _ _ c.args._text.now c.args.path.now c.requires.spelled
    c.in_ok-json.ensures.found (rw c.steps.ensures at c.found_in.ensures)
