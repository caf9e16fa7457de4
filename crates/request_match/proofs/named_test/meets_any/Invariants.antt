use Rattle.std.proofs.Common.{◌≡◌, ◌↔◌, drop}
use Rattle.mock_request.specs.Values.{pairs_of, values_of}
use Rattle.request_match.specs.Inner.Rest.{MeetsRest}
use Rattle.request_match.specs.Parts.Matching.{MeetsAny}
use Rattle.request_match.proofs.named_test.meets_any.Given as goal

-- what is left decides
abbrev pub invariant-loop-key : goal.invariant-loop-key
invariant-loop-key l = record {
  same : l.matcher ≡ l.fn.matcher;
  left : MeetsAny l.fn.matcher (values_of l.name (pairs_of l.fn.pairs))
      ↔ MeetsRest l.found l.fn.matcher (values_of l.name (drop l.key-index (pairs_of l.fn.pairs)));
}
