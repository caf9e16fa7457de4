use Rattle.std.proofs.Common.{◌≡◌}
use Rattle.data_tree.specs.Tree.{members_view}
use Rattle.json_bridge.proofs.Grown.{members_before}
use Rattle.json_bridge.proofs.direct.in_list.Given as goal

-- what is made, followed by what is left, is the whole
abbrev pub invariant-loop-name : goal.invariant-loop-name
invariant-loop-name l =
    members_view l.fn.members.entries ≡ members_before l.made.items (members_view l.name-iterator)
