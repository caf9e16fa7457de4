use Rattle.std.proofs.Common.{◌≡◌, ◌++◌, take}
use Rattle.recorder.specs.Forwarding.{map_of, own_headers, passed_on}
use Rattle.recorder.proofs.forwarding.forwarded_headers.Given as goal

abbrev pub invariant-loop-index : goal.invariant-loop-index
invariant-loop-index l =
    l.headers ≡ map_of (own_headers l.target l.request
    ++ passed_on l.request.headers (take l.index l.request.headers))
