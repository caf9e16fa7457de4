use Rattle.std.proofs.Common.{◌+◌, ◌*◌, ◌≤◌, length, drop}
use Rattle.json.specs.Print.{escape}
use Rattle.request_data.proofs.size_bound.escapes_in.Given as goal

-- what is left and what was counted give the whole
abbrev pub invariant-loop-byte : goal.invariant-loop-byte
invariant-loop-byte l = record {
  few : l.count ≤ l.byte-index;
  whole : length (escape l.block)
      ≤ l.byte-index + 5 * l.count + length (escape (drop l.byte-index l.block));
}
