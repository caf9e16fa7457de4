use Rattle.std.proofs.Common.{◌↔◌, ap, IfOk, IsTrue, sym, subst, ◌∙◌}
use Rattle.mock_request.specs.Query.{query_pairs}
use Rattle.request_match.specs.Matching.{MeetsMethod}
use Rattle.request_match.specs.Parts.Matching.{MeetsUrl, MeetHeaders, MeetPairs}
use Rattle.mock_request.specs.Cookies.{cookie_pairs}
use Rattle.request_match.proofs.RestLemmas.{answered}
use Rattle.request_match.proofs.request_matcher.RequestMatcher.meets_head.Goals as goal

pub returns-then-not-branch-2-clause-answer : goal.returns-then-not-branch-2-clause-answer
returns-then-not-branch-2-clause-answer c = (
  λ f. absurd cc (f),
  λ h.
      let passed = c.in_ok-meets_headers.ensures.answer.1
      (subst (λ ts. MeetHeaders ts c.args.request.now) (sym c.as_mut_slice.ensures.value)
      (subst (λ m. MeetHeaders m.headers c.args.request.now) (sym c.self.view_is) h.headers)) in
      cc,
)

pub returns-then-not-branch-3-clause-answer : goal.returns-then-not-branch-3-clause-answer
returns-then-not-branch-3-clause-answer c = (
  λ f. absurd cc (f),
  λ h.
      let passed = c.in_ok-meets_query.ensures.answer.1
      (subst (MeetPairs c.as_mut_slice-2.result.now) (sym (ap (λ r. query_pairs r.url) c.meets_headers.ensures.same))
      (subst (λ ts. MeetPairs ts (query_pairs c.args.request.now.url)) (sym c.as_mut_slice-2.ensures.value)
      (subst (λ m. MeetPairs m.query (query_pairs c.args.request.now.url)) (sym c.self.view_is) h.query))) in
      cc,
)

pub returns-clause-answer : goal.returns-clause-answer
returns-clause-answer c =
    let request = c.args.request.now in
    let cookies = ap (λ r. cookie_pairs r.headers) (c.meets_query.ensures.same ∙ c.meets_headers.ensures.same) in
    answered c.meets_cookies.result
    (subst (λ pairs. IfOk c.meets_cookies.result
    (λ b. IsTrue b ↔ MeetPairs c.as_mut_slice-3.result.now pairs)) cookies
    c.meets_cookies.ensures.answer) (
      λ a. record {
        method = subst (λ m. MeetsMethod m.method request.method) c.self.view_is
            (subst (MeetsMethod c.self.inside.method) c.method.ensures (c.meets_method.ensures.0 cc));
        url = subst (λ m. MeetsUrl m.url request.url) c.self.view_is (c.in_ok-meets.ensures.answer.0 cc);
        headers = subst (λ m. MeetHeaders m.headers request) c.self.view_is
            (subst (λ ts. MeetHeaders ts request) c.as_mut_slice.ensures.value
            (c.in_ok-meets_headers.ensures.answer.0 cc));
        query = subst (λ m. MeetPairs m.query (query_pairs request.url)) c.self.view_is
            (subst (λ ts. MeetPairs ts (query_pairs request.url)) c.as_mut_slice-2.ensures.value
            (subst (MeetPairs c.as_mut_slice-2.result.now) (ap (λ r. query_pairs r.url) c.meets_headers.ensures.same)
            (c.in_ok-meets_query.ensures.answer.0 cc)));
        cookies = subst (λ m. MeetPairs m.cookies (cookie_pairs request.headers)) c.self.view_is
            (subst (λ ts. MeetPairs ts (cookie_pairs request.headers)) c.as_mut_slice-3.ensures.value a);
      },
      λ h. subst (λ ts. MeetPairs ts (cookie_pairs request.headers)) (sym c.as_mut_slice-3.ensures.value)
          (subst (λ m. MeetPairs m.cookies (cookie_pairs request.headers)) (sym c.self.view_is) h.cookies),
    )
