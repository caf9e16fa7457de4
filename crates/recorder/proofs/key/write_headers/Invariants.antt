use Rattle.std.proofs.Common.{◌≡◌, take}
use Rattle.std.specs.Prelude.{fold}
use Rattle.std.specs.List.{flat_map}
use Rattle.recorder.specs.Key.{fields_of}
use Rattle.recorder.specs.Inner.Keys.{header_writes}
use Rattle.recorder.proofs.key.write_headers.Given as goal

abbrev pub invariant-loop-index : goal.invariant-loop-index
invariant-loop-index g l =
    l.state
    ≡ fold g.H.Hasher.write l.initial.state (flat_map header_writes (fields_of (take l.index l.headers)))
