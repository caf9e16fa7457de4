use Rattle.std.proofs.Common.{◌≡◌, ◌+◌, ◌≤◌, length, reverse}
use Rattle.std.specs.Prelude.{option_map}
use Rattle.template_tags.specs.Levels.{loop_with_parameter}
use Rattle.template_tags.proofs.level.loop_with_parameter.Given as goal

abbrev pub invariant-loop-left : goal.invariant-loop-left
invariant-loop-left l = record {
  counted : l.up + length l.left ≤ length l.levels;
  ahead : loop_with_parameter l.name (reverse l.levels) ≡ option_map (λ n. n + l.up) (loop_with_parameter l.name (reverse l.left));
}

abbrev pub decreases-loop-left : goal.decreases-loop-left
decreases-loop-left l = length l.left
