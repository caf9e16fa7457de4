use Rattle.std.proofs.Common.{◌≡◌, drop}
use Rattle.response_json.specs.Writing.{with_lines}
use Rattle.serde_json.specs.Data.{no_members}
use Rattle.serde_json.specs.View.{members_view}
use Rattle.response_json.proofs.write.write_lines.Given as goal

-- the lines that are left are written onto those so far
abbrev pub invariant-loop-line : goal.invariant-loop-line
invariant-loop-line l =
    with_lines l.fn.lines l.fn.lines no_members
    ≡ with_lines l.fn.lines (drop l.line-index l.fn.lines) (members_view l.members.entries)
