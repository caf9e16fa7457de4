use Rattle.std.proofs.Common.{◌≡◌, drop}
use Rattle.recorder.specs.ForwardCount.{forward_count}
use Rattle.recorder.proofs.forward_count.forward_count.Given as goal

abbrev pub invariant-loop-index : goal.invariant-loop-index
invariant-loop-index l = forward_count (drop l.index l.request.headers) ≡ forward_count l.request.headers
