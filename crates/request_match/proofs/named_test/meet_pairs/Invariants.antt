use Rattle.std.proofs.Common.{◌≡◌, take, All}
use Rattle.mock_request.specs.Values.{pairs_of, values_of}
use Rattle.request_match.specs.Parts.Matching.{MeetsAny}
use Rattle.request_match.proofs.named_test.meet_pairs.Given as goal

abbrev pub invariant-loop-i : goal.invariant-loop-i
invariant-loop-i l = record {
  same : l.tests ≡ l.fn.tests;
  meet : All (λ m. MeetsAny m.matcher (values_of m.name (pairs_of l.pairs))) (take l.i l.tests);
}
