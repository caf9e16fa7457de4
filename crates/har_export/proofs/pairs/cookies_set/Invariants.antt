use Rattle.std.proofs.Common.{◌≡◌, take}
use Rattle.har_export.specs.Pairs.{cookies_set}
use Rattle.mock_request.specs.Values.{pairs_of}
use Rattle.har_export.proofs.pairs.cookies_set.Given as goal

abbrev pub invariant-loop-pair : goal.invariant-loop-pair
invariant-loop-pair l = pairs_of l.cookies.items ≡ cookies_set (pairs_of (take l.pair-index l.fn.pairs))
