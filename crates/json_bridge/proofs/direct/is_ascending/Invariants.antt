use Rattle.std.proofs.Common.{length}
use Rattle.data_tree.specs.Parts.{names_of}
use Rattle.data_tree.specs.Tree.{members_view}
use Rattle.data_tree.specs.WellFormed.{IsAscending}
use Rattle.json_bridge.proofs.direct.is_ascending.Given as goal

-- where the names of the rest ascend, all do
abbrev pub invariant-loop-rest : goal.invariant-loop-rest
invariant-loop-rest l = IsAscending (names_of (members_view l.rest)) → IsAscending (names_of (members_view l.members))

abbrev pub decreases-loop-rest : goal.decreases-loop-rest
decreases-loop-rest l = length l.rest
