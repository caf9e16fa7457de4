use Rattle.std.proofs.Common.{◌↔◌, All, IfOk, IsTrue, ap, subst, ◌∙◌}
use Rattle.request_match.specs.Inner.Heads.{MeetsHead}
use Rattle.request_match.specs.Parts.Matching.{MeetsBody}
use Rattle.request_match.proofs.RestLemmas.{answered}
use Rattle.request_match.proofs.request_matcher.RequestMatcher.matches.Goals as goal

pub returns-then-not-branch-clause-answer : goal.returns-then-not-branch-clause-answer
returns-then-not-branch-clause-answer c = (
  λ f. absurd cc (f),
  λ meets.
      let head : MeetsHead c.args.self.now c.args.request.now = record {
        method = meets.method;
        url = meets.url;
        headers = meets.headers;
        query = meets.query;
        cookies = meets.cookies;
      } in
      let passed = c.in_ok-meets_head.ensures.answer.1 head in
      cc,
)

pub returns-clause-answer : goal.returns-clause-answer
returns-clause-answer c =
    let head : MeetsHead c.args.self.now c.args.request.now = c.in_ok-meets_head.ensures.answer.0 cc in
    answered c.meet_body.result
    (subst (λ ts. IfOk c.meet_body.result (λ b. IsTrue b ↔ All (λ p. MeetsBody p c.args.request.now.body) ts))
    (c.as_mut_slice.ensures.value ∙ ap (λ m. m.body) (c.self.view_is ∙ c.in_ok-meets_head.ensures.same))
    (subst (λ body. IfOk c.meet_body.result
    (λ b. IsTrue b ↔ All (λ p. MeetsBody p body) c.as_mut_slice.result.now))
    (ap (λ r. r.body) c.meets_head.ensures.same_request) c.meet_body.ensures.answer)) (
      λ bodies. record {
        method = head.method;
        url = head.url;
        headers = head.headers;
        query = head.query;
        cookies = head.cookies;
        body = bodies;
      },
      λ meets. meets.body,
    )
