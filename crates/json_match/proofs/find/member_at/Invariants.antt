use Rattle.std.proofs.Common.{◌≡◌, length}
use Rattle.data_tree.specs.Tree.{members_view}
use Rattle.json_match.specs.Inner.Walk.{member_at}
use Rattle.json_match.proofs.find.member_at.Given as goal

-- what is found in the members that are left is found in all
abbrev pub invariant-loop-rest : goal.invariant-loop-rest
invariant-loop-rest l =
    member_at l.more l.name (members_view l.fn.members) ≡ member_at l.more l.name (members_view l.rest)

abbrev pub decreases-loop-rest : goal.decreases-loop-rest
decreases-loop-rest l = length l.rest
