use Rattle.std.proofs.Common.{rules}
use Rattle.data_tree.specs.Parts.{names_of}
use Rattle.data_tree.specs.Tree.{members_view}
use Rattle.data_tree.specs.WellFormed.{IsAscending}
use Rattle.json_bridge.proofs.TreeSteps.{put_all_ascending}
use Rattle.json_bridge.proofs.direct.in_order.Goals as goal

pub returns-then-is_ascending : goal.returns-then-is_ascending
returns-then-is_ascending c =
    let up : IsAscending (names_of (members_view c.args.found.items)) = search rules in
    put_all_ascending c.args.found.items up
