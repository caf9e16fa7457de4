-- When a part of a request meets its matcher (WireMock's documentation, "Request Matching"): the values of a name, the
-- URL, the body. All texts are their bytes.
use Rattle.std.specs.Prelude.{◌≡◌, ◌⊎◌, ℕ, List, [], ◌∷◌, All, Any, Option, None, Some, map, IsSomeAnd}
use Rattle.std.specs.Char.{to_ascii_lowercase}
use Rattle.std.specs.Str.Lossy.{utf8_lossy}
use Rattle.data_tree.specs.LookUp.{at}
use Rattle.data_tree.specs.Print.{print}
use Rattle.data_tree.specs.Tree.{Tree, nothing}
use Rattle.data_tree.specs.declared.step.Step.{Step}
use Rattle.json_bridge.specs.Path.{SpellsPath}
use Rattle.json_bridge.specs.Reading.{tree_of_text}
use Rattle.json_match.specs.Matching as json
use Rattle.mapping_model.specs.declared.body_pattern.BodyPattern.{BodyPattern}
use Rattle.mapping_model.specs.declared.body_pattern.BodyPattern.TheVariants as body
use Rattle.mapping_model.specs.declared.named_matcher.NamedMatcher.{NamedMatcher}
use Rattle.mapping_model.specs.declared.url_spec.UrlSpec.{UrlSpec}
use Rattle.mapping_model.specs.declared.url_spec.UrlSpec.TheVariants as url
use Rattle.mock_request.specs.HeaderFields.{texts_of}
use Rattle.mock_request.specs.Request.{Request}
use Rattle.mock_request.specs.Url.{path_of}
use Rattle.mock_request.specs.Values.{values_of}
use Rattle.path_template.specs.Matching.{bindings_of}
use Rattle.value_match.specs.Matching.{Matches, MatchesValue}
use Rattle.value_match.specs.Patterns.{whole_of, FindsIn}
use Rattle.value_match.specs.declared.value_spec.ValueSpec.{ValueSpec}

-- any one of the values is enough; without a value only `absent` is met
abbrev pub MeetsAny : ValueSpec → List (List ℕ) → Type 0
MeetsAny matcher [] = Matches matcher None
MeetsAny matcher (v ∷ vs) = Any (MatchesValue matcher) (v ∷ vs)

-- each matcher is met by the values of its name among the pairs
abbrev pub MeetPairs : List NamedMatcher → List (List ℕ × List ℕ) → Type 0
MeetPairs matchers pairs = All (λ m. MeetsAny m.matcher (values_of m.name pairs)) matchers

-- the same of headers, whose names are compared without ASCII case
abbrev pub MeetHeaders : List NamedMatcher → Request → Type 0
MeetHeaders matchers request =
    All (λ m. MeetsAny m.matcher (texts_of (map to_ascii_lowercase m.name) request.headers)) matchers

-- a pattern has to match the whole text
abbrev pub MeetsUrl : UrlSpec → List ℕ → Type 0
MeetsUrl url.Any text = Unit {0}
MeetsUrl (url.Url wanted) text = text ≡ wanted
MeetsUrl (url.UrlPattern pattern) text = FindsIn (whole_of pattern) text
MeetsUrl (url.UrlPath wanted) text = path_of text ≡ wanted
MeetsUrl (url.UrlPathPattern pattern) text = FindsIn (whole_of pattern) (path_of text)
MeetsUrl (url.UrlPathTemplate template parameters) text =
    IsSomeAnd (bindings_of template (path_of text)) (λ bindings. MeetPairs parameters bindings)

-- the printed text of what a path finds: none where it finds nothing
abbrev pub found_text : Tree → Option (List ℕ)
found_text nothing = None
found_text tree = Some (print tree)

-- the body is JSON, and a path that the expression spells finds in it what meets the matcher
pub record MeetsAtPath (expression : List ℕ) (matcher : ValueSpec) (tree : Tree) : Type 0 where
  pub steps : List Step
  pub spelled : SpellsPath expression steps
  pub meets : Matches matcher (found_text (at steps tree))

-- a body is always one value, its text; where that is empty, it is also as good as none
abbrev pub MeetsText : ValueSpec → List ℕ → Type 0
MeetsText matcher bytes = MatchesValue matcher (utf8_lossy bytes) ⊎ ((bytes ≡ []) × Matches matcher None)

-- JSON matchers are met only by JSON
abbrev pub MeetsBody : BodyPattern → List ℕ → Type 0
MeetsBody (body.Value matcher) bytes = MeetsText matcher bytes
MeetsBody (body.BinaryEqualTo wanted) bytes = bytes ≡ wanted
MeetsBody (body.Json matcher) bytes = IsSomeAnd (tree_of_text (utf8_lossy bytes)) (json.Matches matcher)
MeetsBody (body.JsonPath expression matcher) bytes =
    IsSomeAnd (tree_of_text (utf8_lossy bytes)) (MeetsAtPath expression matcher)
