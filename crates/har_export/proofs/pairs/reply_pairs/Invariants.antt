use Rattle.std.proofs.Common.{◌≡◌, take}
use Rattle.har_export.specs.Pairs.{reply_pairs}
use Rattle.mock_request.specs.Values.{pairs_of}
use Rattle.har_export.proofs.pairs.reply_pairs.Given as goal

abbrev pub invariant-loop-header : goal.invariant-loop-header
invariant-loop-header l = pairs_of l.pairs.items ≡ reply_pairs (take l.header-index l.fn.headers)
