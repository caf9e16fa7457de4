use Rattle.std.proofs.Common.{◌≡◌}
use Rattle.response_json.specs.Reading.{fields_taken}
use Rattle.serde_json.specs.View.{members_view}
use Rattle.response_json.proofs.read.fields_taken.Given as goal

-- the members that are left decide
abbrev pub invariant-loop-name : goal.invariant-loop-name
invariant-loop-name l =
    fields_taken (members_view l.fn.members.entries) ≡ fields_taken (members_view l.name-iterator)
