-- Which tests of parts may be refused, and with which error. For body matchers these are in the order in which they are
-- reported, each over all of them. Out of memory may come at any time, and a bad pattern where there is a pattern at
-- all: no contract of `regex` says which are too big.
use Rattle.std.specs.Prelude.{◌≡◌, ℕ, List, [], ◌∷◌, All, Any, map, Option, None, Some, IsSome}
use Rattle.std.specs.List.{filter_map}
use Rattle.json_bridge.specs.Path.{IsPath}
use Rattle.json_bridge.specs.Reading.{IsJson, tree_of_text}
use Rattle.json_match.specs.declared.json_spec.JsonSpec.TheVariants as json
use Rattle.mapping_model.specs.declared.body_pattern.BodyPattern.{BodyPattern}
use Rattle.mapping_model.specs.declared.body_pattern.BodyPattern.TheVariants as body
use Rattle.mapping_model.specs.declared.named_matcher.NamedMatcher.{NamedMatcher}
use Rattle.mapping_model.specs.declared.url_spec.UrlSpec.{UrlSpec}
use Rattle.mapping_model.specs.declared.url_spec.UrlSpec.TheVariants as url
use Rattle.path_template.specs.Template.{IsTemplate}
use Rattle.request_match.specs.declared.error.RequestMatchError.{RequestMatchError}
use Rattle.request_match.specs.declared.error.RequestMatchError.TheVariants.{BadUrl, BadPattern, NotJson}
use Rattle.request_match.specs.declared.error.RequestMatchError.TheVariants.{NumberNotWhole, BadPath, OutOfMemory}
use Rattle.value_match.specs.Refusal.{HasPattern, MayBeRefused}
use Rattle.value_match.specs.declared.value_spec.ValueSpec.{ValueSpec}
use Rattle.value_match.specs.declared.value_spec.ValueSpec.TheVariants.{Matches}

-- its path template, if it has one, is one
abbrev pub HasTemplate : UrlSpec → Type 0
HasTemplate url.Any = Unit {0}
HasTemplate (url.Url text) = Unit {0}
HasTemplate (url.UrlPattern pattern) = Unit {0}
HasTemplate (url.UrlPath text) = Unit {0}
HasTemplate (url.UrlPathPattern pattern) = Unit {0}
HasTemplate (url.UrlPathTemplate template parameters) = IsTemplate template

abbrev pub matchers_of : List NamedMatcher → List ValueSpec
matchers_of named = map (λ m. m.matcher) named

-- the value matchers of a URL matcher: its pattern, or those of its path parameters
abbrev pub url_matchers : UrlSpec → List ValueSpec
url_matchers url.Any = []
url_matchers (url.Url text) = []
url_matchers (url.UrlPattern pattern) = Matches pattern ∷ []
url_matchers (url.UrlPath text) = []
url_matchers (url.UrlPathPattern pattern) = Matches pattern ∷ []
url_matchers (url.UrlPathTemplate template parameters) = matchers_of parameters

-- of a body matcher: its value matcher, its expected JSON text, its JSON path
abbrev pub matcher_in : BodyPattern → Option ValueSpec
matcher_in (body.Value matcher) = Some matcher
matcher_in (body.BinaryEqualTo bytes) = None
matcher_in (body.Json matcher) = None
matcher_in (body.JsonPath expression matcher) = Some matcher

abbrev pub text_in : BodyPattern → Option (List ℕ)
text_in (body.Value matcher) = None
text_in (body.BinaryEqualTo bytes) = None
text_in (body.Json (json.EqualTo expected any_order more)) = Some expected
text_in (body.Json (json.Path path)) = None
text_in (body.JsonPath expression matcher) = None

abbrev pub path_in : BodyPattern → Option (List ℕ)
path_in (body.Value matcher) = None
path_in (body.BinaryEqualTo bytes) = None
path_in (body.Json (json.EqualTo expected any_order more)) = None
path_in (body.Json (json.Path path)) = Some path
path_in (body.JsonPath expression matcher) = Some expression

-- the text has a tree: it is JSON with whole numbers that fit 64 bits
abbrev pub HasTree : List ℕ → Type 0
HasTree text = IsSome (tree_of_text text)

-- the value matchers, expected texts and paths of body matchers can be used
abbrev pub HavePatterns : List BodyPattern → Type 0
HavePatterns patterns = All HasPattern (filter_map matcher_in patterns)

abbrev pub HaveJson : List BodyPattern → Type 0
HaveJson patterns = All IsJson (filter_map text_in patterns)

abbrev pub HaveTrees : List BodyPattern → Type 0
HaveTrees patterns = All HasTree (filter_map text_in patterns)

abbrev pub HavePaths : List BodyPattern → Type 0
HavePaths patterns = All IsPath (filter_map path_in patterns)

-- a URL matcher may be refused with that error
abbrev pub IsUrlRefusal : UrlSpec → RequestMatchError → Type 0
IsUrlRefusal spec BadUrl = ¬ (HasTemplate spec)
IsUrlRefusal spec BadPattern = HasTemplate spec × Any MayBeRefused (url_matchers spec)
IsUrlRefusal spec NotJson = ⊥
IsUrlRefusal spec NumberNotWhole = ⊥
IsUrlRefusal spec BadPath = ⊥
IsUrlRefusal spec OutOfMemory = Unit {0}

-- body matchers may be refused with that error
abbrev pub IsBodyRefusal : List BodyPattern → RequestMatchError → Type 0
IsBodyRefusal patterns BadUrl = ⊥
IsBodyRefusal patterns BadPattern = Any MayBeRefused (filter_map matcher_in patterns)
IsBodyRefusal patterns NotJson = HavePatterns patterns × Any (λ text. ¬ (IsJson text)) (filter_map text_in patterns)
IsBodyRefusal patterns NumberNotWhole =
    HavePatterns patterns × HaveJson patterns
    × Any (λ text. tree_of_text text ≡ None) (filter_map text_in patterns)
IsBodyRefusal patterns BadPath =
    HavePatterns patterns × HaveTrees patterns × Any (λ path. ¬ (IsPath path)) (filter_map path_in patterns)
IsBodyRefusal patterns OutOfMemory = Unit {0}
