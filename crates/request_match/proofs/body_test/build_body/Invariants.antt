use Rattle.std.proofs.Common.{◌≡◌, None, take}
use Rattle.request_match.specs.Inner.FirstError.{IsFirstError}
use Rattle.request_match.proofs.body_test.build_body.Given as goal

abbrev pub invariant-loop-spec : goal.invariant-loop-spec
invariant-loop-spec l = record {
  is_first : IsFirstError l.first (take l.spec-index l.fn.specs);
  built : l.first ≡ None → l.tests.items ≡ take l.spec-index l.fn.specs;
}
