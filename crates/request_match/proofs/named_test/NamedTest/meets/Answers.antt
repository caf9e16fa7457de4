use Rattle.std.proofs.Common.{◌↔◌, IfOk, IsTrue, subst}
use Rattle.mock_request.specs.Values.{pairs_of, values_of}
use Rattle.request_match.specs.Parts.Matching.{MeetsAny}
use Rattle.request_match.proofs.named_test.NamedTest.meets.Goals as goal

pub returns-clause-answer : goal.returns-clause-answer
returns-clause-answer c =
    subst (λ t. IfOk c.meets_any.result (λ b. IsTrue b ↔ MeetsAny t.matcher
    (values_of t.name (pairs_of c.args.pairs.now)))) c.self.view_is
    (subst (λ n. IfOk c.meets_any.result (λ b. IsTrue b ↔ MeetsAny c.self.inside.matcher
    (values_of n (pairs_of c.args.pairs.now)))) c.as_str.ensures c.meets_any.ensures.answer)
