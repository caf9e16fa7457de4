use Rattle.std.proofs.Common.{◌≡◌, take}
use Rattle.std.specs.List.{sum_by}
use Rattle.request_data.specs.Inner.Lengths.{header_weight}
use Rattle.request_data.proofs.size_bound.header_bytes.Given as goal

abbrev pub invariant-loop-index : goal.invariant-loop-index
invariant-loop-index l = l.total ≡ sum_by header_weight (take l.index l.snapshot.headers)
