use Rattle.std.proofs.Common.{◌≡◌, take, map}
use Rattle.recorder.specs.Stubs.{header_matcher}
use Rattle.recorded_stubs.proofs.request.request_of.Given as goal

abbrev pub invariant-loop-name : goal.invariant-loop-name
invariant-loop-name l = l.headers.items ≡ map (header_matcher l.request.headers) (take l.name-index l.captured)
