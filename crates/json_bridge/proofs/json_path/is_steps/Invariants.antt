use Rattle.std.proofs.Common.{length}
use denote.Text.{Utf8}
use denote.Shadow.{shadow}
use Rattle.json_bridge.specs.Inner.NextStep.{IsSteps}
use Rattle.json_bridge.proofs.json_path.is_steps.Given as goal

-- the rest is steps exactly where the whole is
abbrev pub invariant-loop-rest : goal.invariant-loop-rest
invariant-loop-rest l = record {
  utf8 : shadow (Utf8 l.rest);
  onward : IsSteps l.rest → IsSteps l.text;
  back : IsSteps l.text → IsSteps l.rest;
}

abbrev pub decreases-loop-rest : goal.decreases-loop-rest
decreases-loop-rest l = length l.rest
