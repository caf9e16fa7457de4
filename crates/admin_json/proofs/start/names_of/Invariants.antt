use Rattle.std.proofs.Common.{◌≡◌}
use Rattle.admin_json.specs.Start.{name_at}
use Rattle.json_reading.proofs.Lists.{joined}
use Rattle.json_reading.specs.Fields.{each_member}
use Rattle.serde_json.specs.View.{members_view}
use Rattle.admin_json.proofs.start.names_of.Given as goal

-- what is read, joined with the members that are left, is the whole
abbrev pub invariant-loop-name : goal.invariant-loop-name
invariant-loop-name l =
    each_member name_at (members_view l.initial.name-iterator)
    ≡ joined l.names (each_member name_at (members_view l.name-iterator))
