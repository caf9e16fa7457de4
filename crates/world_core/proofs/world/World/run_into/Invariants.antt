-- The steps so far are a run with these replies, and the others are left.
use Rattle.std.proofs.Common.{◌≡◌, ◌++◌, length}
use Rattle.std.specs.Vec.Iter.{into_iter_items, into_iter_len}
use Rattle.world_core.specs.Schedule.{Runs}
use Rattle.world_core.proofs.world.World.run_into.Given as goal

abbrev pub invariant-loop-step : goal.invariant-loop-step
invariant-loop-step l = record {
  counted : into_iter_len l.step-iterator ≡ length (into_iter_items l.step-iterator);
  whole : l.fn.steps.items ≡ l.yielded ++ into_iter_items l.step-iterator;
  runs : Runs l.fn.self l.yielded l.replies.items l.self;
}
