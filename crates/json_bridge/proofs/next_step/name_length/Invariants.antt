use Rattle.std.proofs.Common.{◌≡◌, ◌+◌, ◌≤◌, length}
use Rattle.json_bridge.specs.Inner.NextStep.{name_at}
use Rattle.json_bridge.proofs.next_step.name_length.Given as goal

-- what has been passed is name bytes alone
abbrev pub invariant-loop-rest : goal.invariant-loop-rest
invariant-loop-rest l = record {
  within : length l.rest ≤ length l.text;
  same : length (name_at l.text) + length l.rest ≡ length (name_at l.rest) + length l.text;
}

abbrev pub decreases-loop-rest : goal.decreases-loop-rest
decreases-loop-rest l = length l.rest
