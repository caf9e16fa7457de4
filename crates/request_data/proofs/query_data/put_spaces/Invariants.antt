use Rattle.std.proofs.Common.{◌≡◌}
use Rattle.request_data.proofs.DecodedLemmas.{spaced}
use Rattle.request_data.proofs.query_data.put_spaces.Given as goal

abbrev pub invariant-loop-index : goal.invariant-loop-index
invariant-loop-index l = l.bytes ≡ spaced l.index l.initial.bytes
