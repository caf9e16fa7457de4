use Rattle.std.proofs.Common.{◌≡◌, take, All}
use Rattle.request_match.specs.Parts.Refusal.{matchers_of}
use Rattle.value_match.specs.Refusal.{HasPattern}
use Rattle.request_match.proofs.named_test.build_tests.Given as goal

abbrev pub invariant-loop-spec : goal.invariant-loop-spec
invariant-loop-spec l = record {
  built : l.tests.items ≡ take l.spec-index l.fn.specs;
  patterns : All HasPattern (matchers_of (take l.spec-index l.fn.specs));
}
