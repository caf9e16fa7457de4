use Rattle.std.proofs.Common.{◌≡◌, drop}
use Rattle.har_export.specs.Pairs.{first_named}
use Rattle.mock_request.specs.Values.{pairs_of}
use Rattle.har_export.proofs.pairs.first_named.Given as goal

abbrev pub invariant-loop-other : goal.invariant-loop-other
invariant-loop-other l =
    first_named l.fn.name l.fn.default (pairs_of l.fn.pairs)
    ≡ first_named l.fn.name l.fn.default (pairs_of (drop l.other-index l.fn.pairs))
