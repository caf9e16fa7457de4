use Rattle.std.proofs.Common.{◌≡◌, take, map, All}
use Rattle.std.specs.Char.{to_ascii_lowercase}
use Rattle.mock_request.specs.HeaderFields.{texts_of}
use Rattle.request_match.specs.Parts.Matching.{MeetsAny}
use Rattle.request_match.proofs.named_test.meet_headers.Given as goal

abbrev pub invariant-loop-i : goal.invariant-loop-i
invariant-loop-i l = record {
  same : l.tests ≡ l.fn.tests;
  meet : All (λ m. MeetsAny m.matcher (texts_of (map to_ascii_lowercase m.name) l.request.headers)) (take l.i l.tests);
}
