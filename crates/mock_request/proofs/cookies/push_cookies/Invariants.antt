use Rattle.std.proofs.Common.{◌≡◌, ◌++◌}
use Rattle.mock_request.specs.Values.{pairs_of}
use Rattle.mock_request.proofs.CookieLemmas.{cookies_of}
use Rattle.mock_request.proofs.cookies.push_cookies.Given as goal

abbrev pub invariant-loop-piece : goal.invariant-loop-piece
invariant-loop-piece l = pairs_of l.pairs.items ≡ pairs_of l.fn.pairs.items ++ cookies_of l.yielded
