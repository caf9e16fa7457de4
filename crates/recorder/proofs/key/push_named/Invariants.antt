use Rattle.std.proofs.Common.{◌≡◌, ◌++◌, take}
use Rattle.recorder.specs.Key.{headers_named, fields_of}
use Rattle.recorder.proofs.key.push_named.Given as goal

abbrev pub invariant-loop-index : goal.invariant-loop-index
invariant-loop-index l =
    fields_of l.headers.items
    ≡ fields_of l.fn.headers.items ++ headers_named l.fn.name (take l.index l.request.headers)
