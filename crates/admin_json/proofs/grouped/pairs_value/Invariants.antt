use Rattle.std.proofs.Common.{◌≡◌}
use Rattle.admin_json.proofs.Groups.{groups_in, with_groups}
use Rattle.serde_json.specs.Data.{no_members}
use Rattle.serde_json.specs.View.{members_view}
use Rattle.admin_json.proofs.grouped.pairs_value.Given as goal

-- the groups that are left are written onto those so far
abbrev pub invariant-loop-name : goal.invariant-loop-name
invariant-loop-name l =
    with_groups (groups_in l.initial.name-iterator) no_members
    ≡ with_groups (groups_in l.name-iterator) (members_view l.members.entries)
