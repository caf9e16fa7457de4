use Rattle.std.proofs.Common.{◌↔◌, IfOk, IsTrue, sym, subst}
use Rattle.request_match.specs.Inner.Kept.{body_pattern_of, KeepsPath}
use Rattle.request_match.specs.Parts.Matching.{MeetsBody}
use Rattle.request_match.proofs.ReadLemmas.{at_path_of}
use Rattle.request_match.proofs.RestLemmas.{answered}
use Rattle.request_match.proofs.body_test.meets_kind.Goals as goal

pub returns-in-Value-clause-answer : goal.returns-in-Value-clause-answer
returns-in-Value-clause-answer c =
    subst (λ k. IfOk c.meets_text.result (λ b. IsTrue b ↔ MeetsBody (body_pattern_of k) c.args.request.now.body))
    (sym c.in-Value.is) c.meets_text.ensures.answer

pub returns-in-Json-clause-answer : goal.returns-in-Json-clause-answer
returns-in-Json-clause-answer c =
    subst (λ k. IfOk c.meets_json.result (λ b. IsTrue b ↔ MeetsBody (body_pattern_of k) c.args.request.now.body))
    (sym c.in-Json.is) c.meets_json.ensures.answer

pub returns-in-JsonPath-clause-answer : goal.returns-in-JsonPath-clause-answer
returns-in-JsonPath-clause-answer c =
    subst (λ k. IfOk c.meets_at.result (λ b. IsTrue b ↔ MeetsBody (body_pattern_of k) c.args.request.now.body))
    (sym c.in-JsonPath.is)
    (answered c.meets_at.result c.meets_at.ensures.answer
    (at_path_of c.in-JsonPath.field-0 c.args.request.now.body c.in-JsonPath.path c.in-JsonPath.matcher
    (subst KeepsPath c.in-JsonPath.is c.requires)))
