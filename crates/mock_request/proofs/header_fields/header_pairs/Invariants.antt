use Rattle.std.proofs.Common.{◌≡◌, take}
use Rattle.mock_request.specs.HeaderFields.{header_pairs}
use Rattle.mock_request.specs.Values.{pairs_of}
use Rattle.mock_request.proofs.header_fields.header_pairs.Given as goal

abbrev pub invariant-loop-index : goal.invariant-loop-index
invariant-loop-index l = pairs_of l.pairs.items ≡ header_pairs (take l.index l.snapshot.headers)
