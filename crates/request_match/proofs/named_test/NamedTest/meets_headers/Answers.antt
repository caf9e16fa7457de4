use Rattle.std.proofs.Common.{◌↔◌, IfOk, IsTrue, subst, map}
use Rattle.std.specs.Char.{to_ascii_lowercase}
use Rattle.mock_request.specs.HeaderFields.{texts_of}
use Rattle.request_match.specs.Parts.Matching.{MeetsAny}
use Rattle.request_match.proofs.named_test.NamedTest.meets_headers.Goals as goal

pub returns-clause-answer : goal.returns-clause-answer
returns-clause-answer c =
    subst (λ t. IfOk c.meets_any_header.result (λ b. IsTrue b ↔ MeetsAny t.matcher
    (texts_of (map to_ascii_lowercase t.name) c.args.request.now.headers))) c.self.view_is
    (subst (λ n. IfOk c.meets_any_header.result (λ b. IsTrue b ↔ MeetsAny c.self.inside.matcher
    (texts_of (map to_ascii_lowercase n) c.args.request.now.headers))) c.as_str.ensures
    c.meets_any_header.ensures.answer)
