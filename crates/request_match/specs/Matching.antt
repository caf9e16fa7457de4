-- Which requests meet a request matcher (WireMock's documentation, "Request Matching"): those that meet each of its
-- parts. All texts are their bytes.
use Rattle.std.specs.Prelude.{◌≡◌, ◌⊎◌, ℕ, List, All, Option, None, Some, codes}
use Rattle.mapping_model.specs.declared.request_spec.RequestSpec.{RequestSpec}
use Rattle.mock_request.specs.Cookies.{cookie_pairs}
use Rattle.mock_request.specs.Query.{query_pairs}
use Rattle.mock_request.specs.Request.{Request}
use Rattle.request_match.specs.Parts.Matching.{MeetsUrl, MeetHeaders, MeetPairs, MeetsBody}

-- an absent method and `ANY` are met by each method
abbrev pub MeetsMethod : Option (List ℕ) → List ℕ → Type 0
MeetsMethod None method = Unit {0}
MeetsMethod (Some wanted) method = (wanted ≡ codes "ANY") ⊎ (wanted ≡ method)

-- the request meets each part of the matcher
pub record MeetsRequest (matcher : RequestSpec) (request : Request) : Type 0 where
  pub method : MeetsMethod matcher.method request.method
  pub url : MeetsUrl matcher.url request.url
  pub headers : MeetHeaders matcher.headers request
  pub query : MeetPairs matcher.query (query_pairs request.url)
  pub cookies : MeetPairs matcher.cookies (cookie_pairs request.headers)
  pub body : All (λ pattern. MeetsBody pattern request.body) matcher.body
