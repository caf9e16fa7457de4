use Rattle.std.proofs.Common.{◌∙◌}
use Rattle.match_difference.proofs.MetLemmas.{by_header, by_pairs}
use Rattle.mock_request.specs.Cookies.{cookie_pairs}
use Rattle.mock_request.specs.Query.{query_pairs}
use Rattle.match_difference.proofs.met.meets_value.Goals as goal

pub returns-in-Header-clause-answer : goal.returns-in-Header-clause-answer
returns-in-Header-clause-answer c =
    rw c.in-Header.is
    (by_header _ c.args.matcher.now c.args.request.now _ (c.as_mut_slice.ensures.value ∙ c.in_ok-tests.ensures.ok)
    c.in_ok-meets_headers-in-Header.ensures.answer)

pub returns-in-Query-clause-answer : goal.returns-in-Query-clause-answer
returns-in-Query-clause-answer c =
    rw c.in-Query.is
    (by_pairs _ c.args.matcher.now (query_pairs c.args.request.now.url) _
    (c.as_mut_slice-in-Query.ensures.value ∙ c.in_ok-tests.ensures.ok) c.in_ok-meets_query-in-Query.ensures.answer)

pub returns-clause-answer : goal.returns-clause-answer
returns-clause-answer c =
    rw c.in-Cookie.is
    (by_pairs _ c.args.matcher.now (cookie_pairs c.args.request.now.headers) _
    (c.as_mut_slice-in-Cookie.ensures.value ∙ c.in_ok-tests.ensures.ok) c.in_ok-meets_cookies-in-Cookie.ensures.answer)
