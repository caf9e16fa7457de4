use Rattle.std.proofs.Common.{◌≡◌, [], take}
use Rattle.recorder.specs.Key.{headers_named}
use Rattle.recorded_stubs.proofs.request.first_value.Given as goal

abbrev pub invariant-loop-index : goal.invariant-loop-index
invariant-loop-index l = headers_named l.name (take l.index l.request.headers) ≡ []
