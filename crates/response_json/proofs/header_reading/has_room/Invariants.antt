use Rattle.std.proofs.Common.{◌≡◌, ◌+◌, ◌≤◌}
use Rattle.mapping_model.specs.declared.header_lines.TheConstants.{HEADER_LIMIT}
use Rattle.response_json.specs.Inner.Counts.{count_in}
use Rattle.serde_json.specs.View.{members_view}
use Rattle.response_json.proofs.header_reading.has_room.Given as goal

-- the lines so far, with those that are left, are all lines
abbrev pub invariant-loop-name : goal.invariant-loop-name
invariant-loop-name l = record {
  within : l.left ≤ HEADER_LIMIT;
  whole : count_in (members_view l.fn.members.entries) + l.left
      ≡ HEADER_LIMIT + count_in (members_view l._name-iterator);
}
