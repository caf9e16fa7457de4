-- The conditions of a mapping, one by one, and when each is met: all of them exactly where the mapping is eligible
-- (`IsEligible` of `request_journal`, which is `MeetsRequest` and the state of the scenario). All texts are their bytes.
use Rattle.std.specs.Prelude.{ℕ, List, [], ◌∷◌, ◌++◌, Option, None, Some, map, IfSome}
use Rattle.std.specs.Char.{to_ascii_lowercase}
use Rattle.mapping_model.specs.declared.mapping_spec.MappingSpec.{MappingSpec}
use Rattle.mapping_model.specs.declared.named_matcher.NamedMatcher.{NamedMatcher}
use Rattle.mapping_model.specs.declared.scenario_spec.ScenarioSpec.{ScenarioSpec}
use Rattle.mapping_model.specs.declared.url_spec.UrlSpec.{UrlSpec}
use Rattle.mapping_model.specs.declared.url_spec.UrlSpec.TheVariants as url
use Rattle.match_difference.specs.declared.condition.Condition.{Condition}
use Rattle.match_difference.specs.declared.condition.Condition.TheVariants as condition
use Rattle.match_difference.specs.declared.condition.Source.{Source}
use Rattle.match_difference.specs.declared.condition.Source.TheVariants.{Header, Query, Cookie}
use Rattle.mock_request.specs.Cookies.{cookie_pairs}
use Rattle.mock_request.specs.HeaderFields.{texts_of}
use Rattle.mock_request.specs.Query.{query_pairs}
use Rattle.mock_request.specs.Request.{Request}
use Rattle.mock_request.specs.Url.{path_of}
use Rattle.mock_request.specs.Values.{values_of}
use Rattle.path_template.specs.Matching.{bindings_of}
use Rattle.request_journal.specs.Choice.{IsReady}
use Rattle.request_match.specs.Matching.{MeetsMethod}
use Rattle.request_match.specs.Parts.Matching.{MeetsAny, MeetsUrl, MeetsBody}

-- ---- the conditions, in the order: method, URL, headers, query, cookies, path parameters, body, scenario

abbrev pub method_conditions : Option (List ℕ) → List Condition
method_conditions None = []
method_conditions (Some wanted) = condition.Method wanted ∷ []

-- a path template and its parameters are conditions of their own
abbrev pub url_conditions : UrlSpec → List Condition
url_conditions url.Any = []
url_conditions (url.Url text) = condition.Url (url.Url text) ∷ []
url_conditions (url.UrlPattern pattern) = condition.Url (url.UrlPattern pattern) ∷ []
url_conditions (url.UrlPath text) = condition.Url (url.UrlPath text) ∷ []
url_conditions (url.UrlPathPattern pattern) = condition.Url (url.UrlPathPattern pattern) ∷ []
url_conditions (url.UrlPathTemplate template parameters) = condition.Url (url.UrlPathTemplate template []) ∷ []

abbrev pub parameter_conditions : UrlSpec → List Condition
parameter_conditions url.Any = []
parameter_conditions (url.Url text) = []
parameter_conditions (url.UrlPattern pattern) = []
parameter_conditions (url.UrlPath text) = []
parameter_conditions (url.UrlPathPattern pattern) = []
parameter_conditions (url.UrlPathTemplate template parameters) =
    map (λ parameter. condition.PathParameter template parameter) parameters

abbrev pub scenario_conditions : Option ScenarioSpec → List Condition
scenario_conditions None = []
scenario_conditions (Some scenario) = condition.Scenario scenario ∷ []

abbrev pub conditions_of : MappingSpec → List Condition
conditions_of mapping =
    method_conditions mapping.request.method
    ++ (url_conditions mapping.request.url
    ++ (map (λ m. condition.Value Header m) mapping.request.headers
    ++ (map (λ m. condition.Value Query m) mapping.request.query
    ++ (map (λ m. condition.Value Cookie m) mapping.request.cookies
    ++ (parameter_conditions mapping.request.url
    ++ (map (λ p. condition.Body p) mapping.request.body
    ++ scenario_conditions mapping.scenario))))))

-- ---- when a request meets one, where `state_of` gives the state of each scenario

-- the values of a name
abbrev pub values_in : Source → List ℕ → Request → List (List ℕ)
values_in Header name request = texts_of (map to_ascii_lowercase name) request.headers
values_in Query name request = values_of name (query_pairs request.url)
values_in Cookie name request = values_of name (cookie_pairs request.headers)

-- what the template binds the name to in the path; of a path that it doesn't match the condition of the URL speaks
abbrev pub MeetsParameter : List ℕ → NamedMatcher → List ℕ → Type 0
MeetsParameter template m target =
    IfSome (bindings_of template (path_of target)) (λ bindings. MeetsAny m.matcher (values_of m.name bindings))

abbrev pub IsMet : (List ℕ → List ℕ) → Request → Condition → Type 0
IsMet state_of request (condition.Method wanted) = MeetsMethod (Some wanted) request.method
IsMet state_of request (condition.Url wanted) = MeetsUrl wanted request.url
IsMet state_of request (condition.Value source m) = MeetsAny m.matcher (values_in source m.name request)
IsMet state_of request (condition.PathParameter template m) = MeetsParameter template m request.url
IsMet state_of request (condition.Body pattern) = MeetsBody pattern request.body
IsMet state_of request (condition.Scenario scenario) = IsReady state_of (Some scenario)
