-- Whether a request meets a matcher, as a test: what is listed of a search is then a function of the requests.
use Rattle.std.specs.Prelude.{ℕ, List, [], ◌∷◌, Bool, true, false, ◌&&◌, ◌||◌, ◌==◌, not, Option, Some, None, map}
use Rattle.std.specs.Prelude.{chars, codes, is_some}
use Rattle.std.specs.Char.{to_ascii_lowercase}
use Rattle.std.specs.List.{list_all, list_any, starts_with}
use Rattle.std.specs.Option.{option_map_or}
use Rattle.std.specs.Str.{bytes_eq}
use Rattle.std.specs.Str.Lossy.{utf8_lossy}
use Rattle.data_tree.specs.LookUp.{at}
use Rattle.data_tree.specs.Tree.{Tree}
use Rattle.json_bridge.specs.PathFound.{path_of as steps_of_path}
use Rattle.json_bridge.specs.Reading.{tree_of_text}
use Rattle.json_match.specs.Matching.{is_equal, is_something}
use Rattle.json_match.specs.declared.json_spec.JsonSpec.{JsonSpec}
use Rattle.json_match.specs.declared.json_spec.JsonSpec.TheVariants.{EqualTo, Path}
use Rattle.mapping_model.specs.declared.body_pattern.BodyPattern.{BodyPattern}
use Rattle.mapping_model.specs.declared.body_pattern.BodyPattern.TheVariants as body
use Rattle.mapping_model.specs.declared.named_matcher.NamedMatcher.{NamedMatcher}
use Rattle.mapping_model.specs.declared.request_spec.RequestSpec.{RequestSpec}
use Rattle.mapping_model.specs.declared.url_spec.UrlSpec.{UrlSpec}
use Rattle.mapping_model.specs.declared.url_spec.UrlSpec.TheVariants as url
use Rattle.mock_request.specs.Cookies.{cookie_pairs}
use Rattle.mock_request.specs.HeaderFields.{texts_of}
use Rattle.mock_request.specs.Query.{query_pairs}
use Rattle.mock_request.specs.Request.{Request}
use Rattle.mock_request.specs.Url.{path_of}
use Rattle.mock_request.specs.Values.{values_of}
use Rattle.path_template.specs.Matching.{bindings_of}
use Rattle.regex.specs.Patterns.{find_str, default_config}
use Rattle.regex_syntax.specs.Grammar.{read}
use Rattle.request_match.specs.Parts.Matching.{found_text}
use Rattle.value_match.specs.Patterns.{whole_of}
use Rattle.value_match.specs.declared.value_spec.ValueSpec.{ValueSpec}
use Rattle.value_match.specs.declared.value_spec.ValueSpec.TheVariants as value

-- there is a value, and it passes
abbrev pub some_passes : {X : Type 0} → (X → Bool) → Option X → Bool
some_passes test found = option_map_or test found false

-- the first text stands in the second
abbrev pub occurs : List ℕ → List ℕ → Bool
occurs text [] = starts_with ◌==◌ [] text
occurs text (b ∷ bs) = starts_with ◌==◌ (b ∷ bs) text || occurs text bs

abbrev pub finds : List ℕ → List ℕ → Bool
finds source text =
    some_passes (λ (re, _). is_some (find_str re.value text 0)) (read default_config (chars source))

abbrev pub meets_value : ValueSpec → List ℕ → Bool
meets_value (value.EqualTo wanted) text = bytes_eq text wanted
meets_value (value.EqualToIgnoringCase wanted) text =
    bytes_eq (map to_ascii_lowercase text) (map to_ascii_lowercase wanted)
meets_value (value.Contains part) text = occurs part text
meets_value (value.DoesNotContain part) text = not (occurs part text)
meets_value (value.Matches pattern) text = finds (whole_of pattern) text
meets_value (value.DoesNotMatch pattern) text = not (finds (whole_of pattern) text)
meets_value value.Absent text = false

abbrev pub is_absent : ValueSpec → Bool
is_absent value.Absent = true
is_absent other = false

abbrev pub meets_option : ValueSpec → Option (List ℕ) → Bool
meets_option matcher None = is_absent matcher
meets_option matcher (Some text) = meets_value matcher text

abbrev pub meets_any : ValueSpec → List (List ℕ) → Bool
meets_any matcher [] = is_absent matcher
meets_any matcher (text ∷ texts) = list_any (meets_value matcher) (text ∷ texts)

abbrev pub meet_pairs : List NamedMatcher → List (List ℕ × List ℕ) → Bool
meet_pairs matchers pairs = list_all (λ m. meets_any m.matcher (values_of m.name pairs)) matchers

abbrev pub meet_headers : List NamedMatcher → Request → Bool
meet_headers matchers request =
    list_all (λ m. meets_any m.matcher (texts_of (map to_ascii_lowercase m.name) request.headers)) matchers

abbrev pub meets_method : Option (List ℕ) → List ℕ → Bool
meets_method None method = true
meets_method (Some wanted) method = bytes_eq wanted (codes "ANY") || bytes_eq wanted method

abbrev pub meets_url : UrlSpec → List ℕ → Bool
meets_url url.Any text = true
meets_url (url.Url wanted) text = bytes_eq text wanted
meets_url (url.UrlPattern pattern) text = finds (whole_of pattern) text
meets_url (url.UrlPath wanted) text = bytes_eq (path_of text) wanted
meets_url (url.UrlPathPattern pattern) text = finds (whole_of pattern) (path_of text)
meets_url (url.UrlPathTemplate template parameters) text =
    some_passes (meet_pairs parameters) (bindings_of template (path_of text))

abbrev pub meets_json : JsonSpec → Tree → Bool
meets_json (EqualTo expected any_order more) tree =
    some_passes (λ e. is_equal (record { ignore_array_order = any_order; ignore_extra_elements = more }) e tree)
    (tree_of_text expected)
meets_json (Path path) tree = some_passes (λ steps. is_something (at steps tree)) (steps_of_path path)

abbrev pub meets_at_path : List ℕ → ValueSpec → Tree → Bool
meets_at_path path matcher tree =
    some_passes (λ steps. meets_option matcher (found_text (at steps tree))) (steps_of_path path)

abbrev pub meets_body : List ℕ → BodyPattern → Bool
meets_body bytes (body.Value matcher) =
    meets_value matcher (utf8_lossy bytes) || (bytes_eq bytes [] && is_absent matcher)
meets_body bytes (body.BinaryEqualTo wanted) = bytes_eq bytes wanted
meets_body bytes (body.Json matcher) = some_passes (meets_json matcher) (tree_of_text (utf8_lossy bytes))
meets_body bytes (body.JsonPath path matcher) =
    some_passes (meets_at_path path matcher) (tree_of_text (utf8_lossy bytes))

-- the request meets each part of the matcher
unfoldable pub meets_request : RequestSpec → Request → Bool
meets_request matcher request =
    meets_method matcher.method request.method
    && (meets_url matcher.url request.url
    && (meet_headers matcher.headers request
    && (meet_pairs matcher.query (query_pairs request.url)
    && (meet_pairs matcher.cookies (cookie_pairs request.headers)
    && list_all (meets_body request.body) matcher.body))))
