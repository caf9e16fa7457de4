use Rattle.std.proofs.Common.{length}
use denote.Text.{Utf8}
use denote.Shadow.{shadow}
use Rattle.json_bridge.proofs.Unique.{BeginsWith}
use Rattle.json_bridge.proofs.json_path.steps_of.Given as goal

abbrev pub invariant-loop-step : goal.invariant-loop-step
invariant-loop-step l = record {
  utf8 : shadow (Utf8 l.rest);
  begins : BeginsWith l.text l.rest l.steps.items;
}

abbrev pub decreases-loop-step : goal.decreases-loop-step
decreases-loop-step l = length l.rest
