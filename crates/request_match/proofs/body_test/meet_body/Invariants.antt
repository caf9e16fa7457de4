use Rattle.std.proofs.Common.{◌≡◌, take, All}
use Rattle.request_match.specs.Parts.Matching.{MeetsBody}
use Rattle.request_match.proofs.body_test.meet_body.Given as goal

abbrev pub invariant-loop-i : goal.invariant-loop-i
invariant-loop-i l = record {
  same : l.tests ≡ l.fn.tests;
  same_request : l.request ≡ l.fn.request;
  meet : All (λ pattern. MeetsBody pattern l.fn.request.body) (take l.i l.tests);
}
