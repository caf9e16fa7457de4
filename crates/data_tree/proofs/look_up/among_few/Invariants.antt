use Rattle.std.proofs.Common.{◌≡◌, length}
use Rattle.data_tree.specs.Tree.{members_view}
use Rattle.data_tree.specs.LookUp.{under}
use Rattle.data_tree.proofs.look_up.among_few.Given as goal

-- what is found among the fields that are left is found among all
abbrev pub invariant-loop-rest : goal.invariant-loop-rest
invariant-loop-rest l = under l.name (members_view l.fn.fields) ≡ under l.name (members_view l.rest)

abbrev pub decreases-loop-rest : goal.decreases-loop-rest
decreases-loop-rest l = length l.rest
