use Rattle.std.proofs.Common.{◌≡◌, map}
use Rattle.json_reading.specs.Fields.{has_only}
use Rattle.serde_json.specs.View.{members_view}
use Rattle.json_reading.proofs.fields.has_only.Given as goal

-- the members that are left decide
abbrev pub invariant-loop-name : goal.invariant-loop-name
invariant-loop-name l =
    has_only (map (λ name. name.now) l.names) (members_view l.fn.members.entries)
    ≡ has_only (map (λ name. name.now) l.names) (members_view l.name-iterator)
