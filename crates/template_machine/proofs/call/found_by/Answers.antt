use Rattle.std.proofs.Common.{Err, ap}
use Rattle.data_tree.specs.Tree.{view}
use Rattle.template_machine.proofs.Calls.{found-unspelled}
use Rattle.template_machine.proofs.call.found_by.Goals as goal

pub returns-in-Err-BadPath : goal.returns-in-Err-BadPath
returns-in-Err-BadPath c =
    found-unspelled (view c.args.root.now) c.args.text.now
    (c.in-Err-BadPath.ensures.bad.0 (ap (λ e. Err e) c.in-Err-BadPath.field-0-is))
