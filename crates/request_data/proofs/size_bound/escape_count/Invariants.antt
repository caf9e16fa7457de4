use Rattle.std.proofs.Common.{◌+◌, ◌*◌, ◌≤◌, length}
use Rattle.json.specs.Print.{escape}
use Rattle.request_data.proofs.size_bound.escape_count.Given as goal

-- what is left and what was counted give the whole
abbrev pub invariant-loop-rest : goal.invariant-loop-rest
invariant-loop-rest l = record {
  few : l.count + length l.rest ≤ length l.text;
  whole : length (escape l.text) + length l.rest ≤ length l.text + 5 * l.count + length (escape l.rest);
}

abbrev pub decreases-loop-rest : goal.decreases-loop-rest
decreases-loop-rest l = length l.rest
