use Rattle.std.proofs.Common.{◌≡◌, ◌+◌, ◌≤◌, length, reverse}
use Rattle.template_tags.specs.Levels.{loops_open}
use Rattle.template_tags.proofs.level.loops_open.Given as goal

abbrev pub invariant-loop-left : goal.invariant-loop-left
invariant-loop-left l = record {
  counted : l.count + length l.left ≤ length l.levels;
  ahead : loops_open (reverse l.levels) ≡ l.count + loops_open (reverse l.left);
}

abbrev pub decreases-loop-left : goal.decreases-loop-left
decreases-loop-left l = length l.left
