use Rattle.std.proofs.Common.{◌≡◌}
use Rattle.response_json.specs.Reading.{lines_in, joined}
use Rattle.serde_json.specs.View.{members_view}
use Rattle.response_json.proofs.header_reading.lines_in.Given as goal

-- the lines so far, and those of the members that are left
abbrev pub invariant-loop-name : goal.invariant-loop-name
invariant-loop-name l =
    lines_in (members_view l.fn.members.entries) ≡ joined l.lines (lines_in (members_view l.name-iterator))
