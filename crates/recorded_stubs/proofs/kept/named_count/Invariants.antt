use Rattle.std.proofs.Common.{◌≡◌, ◌≤◌, length, take}
use Rattle.recorder.specs.Key.{headers_named}
use Rattle.recorded_stubs.proofs.kept.named_count.Given as goal

abbrev pub invariant-loop-index : goal.invariant-loop-index
invariant-loop-index l = record {
  count : l.count ≡ length (headers_named l.name (take l.index l.request.headers));
  few : l.count ≤ l.index;
}
