-- For private clauses: the parts of a matcher but its body patterns.
use Rattle.mapping_model.specs.declared.request_spec.RequestSpec.{RequestSpec}
use Rattle.mock_request.specs.Cookies.{cookie_pairs}
use Rattle.mock_request.specs.Query.{query_pairs}
use Rattle.mock_request.specs.Request.{Request}
use Rattle.request_match.specs.Matching.{MeetsMethod}
use Rattle.request_match.specs.Parts.Matching.{MeetsUrl, MeetHeaders, MeetPairs}

-- the request meets each part but those of its body
pub record MeetsHead (matcher : RequestSpec) (request : Request) : Type 0 where
  pub method : MeetsMethod matcher.method request.method
  pub url : MeetsUrl matcher.url request.url
  pub headers : MeetHeaders matcher.headers request
  pub query : MeetPairs matcher.query (query_pairs request.url)
  pub cookies : MeetPairs matcher.cookies (cookie_pairs request.headers)
