use Rattle.std.proofs.Common.{◌≡◌, ◌↔◌, drop, map}
use Rattle.std.specs.Char.{to_ascii_lowercase}
use Rattle.mock_request.specs.HeaderFields.{header_pairs, texts_of}
use Rattle.mock_request.specs.Values.{values_of}
use Rattle.request_match.specs.Inner.Rest.{MeetsRest}
use Rattle.request_match.specs.Parts.Matching.{MeetsAny}
use Rattle.request_match.proofs.named_test.meets_any_header.Given as goal

-- what is left decides
abbrev pub invariant-loop-i : goal.invariant-loop-i
invariant-loop-i l = record {
  same : l.matcher ≡ l.fn.matcher;
  left : MeetsAny l.fn.matcher (texts_of (map to_ascii_lowercase l.name) l.request.headers)
      ↔ MeetsRest l.found l.fn.matcher
      (values_of (map to_ascii_lowercase l.name) (drop l.i (header_pairs l.request.headers)));
}
