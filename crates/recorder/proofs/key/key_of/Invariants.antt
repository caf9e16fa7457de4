use Rattle.std.proofs.Common.{◌≡◌, take}
use Rattle.recorder.specs.Key.{captured_headers, fields_of}
use Rattle.recorder.proofs.key.key_of.Given as goal

abbrev pub invariant-loop-name : goal.invariant-loop-name
invariant-loop-name l =
    fields_of l.headers.items ≡ captured_headers (take l.name-index l.captured) l.request.headers
