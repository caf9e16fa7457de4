-- A request passes the test of a matcher exactly where it meets the matcher.
use Rattle.std.proofs.Common.{◌≡◌, ℕ, List, [], ◌∷◌, ◌++◌, ◌⊎◌, inl, inr, length, map, drop}
use Rattle.std.proofs.Common.{ap, subst, Bool, true, false, true≢false, Option, Some, None, IsTrue, ◌==◌}
use Rattle.std.proofs.Common.{refl, sym, codes, chars, is_some, Decides, All, Any, IsSomeAnd, ◌||◌}
use Rattle.std.specs.Char.{to_ascii_lowercase}
use Rattle.std.specs.List.{list_all, list_any, starts_with}
use Rattle.std.specs.Str.{bytes_eq}
use Rattle.std.specs.Str.Iter.{HasSubslice}
use Rattle.std.specs.Str.Lossy.{utf8_lossy}
use Rattle.std.proofs.lemmas.Bool.Decides.{Decides-and, Decides-by_and, Decides-eqb, Decides-like}
use Rattle.std.proofs.lemmas.Bool.Decides.{Decides-not, Decides-or}
use Rattle.std.proofs.lemmas.List.Folds.{Any-from_list_any, list_any-from_Any}
use Rattle.std.proofs.lemmas.Slice.Eq.{bytes_eq-Decides, starts_is}
use Rattle.admin_answers.specs.Inner.Meets as test
use Rattle.data_tree.specs.LookUp.{at}
use Rattle.data_tree.specs.Tree.{Tree}
use Rattle.data_tree.specs.declared.step.Step.{Step}
use Rattle.json_bridge.specs.Path.{SpellsPath}
use Rattle.json_bridge.specs.PathFound.{path_of as steps_of_path}
use Rattle.json_bridge.specs.Reading.{tree_of_text}
use Rattle.json_bridge.proofs.Found.{path_found_is_spelled}
use Rattle.json_match.specs.Matching as json
use Rattle.json_match.specs.declared.json_spec.JsonSpec.{JsonSpec}
use Rattle.json_match.specs.declared.json_spec.JsonSpec.TheVariants.{EqualTo, Path}
use Rattle.mapping_model.specs.declared.body_pattern.BodyPattern.{BodyPattern}
use Rattle.mapping_model.specs.declared.body_pattern.BodyPattern.TheVariants as body
use Rattle.mapping_model.specs.declared.named_matcher.NamedMatcher.{NamedMatcher}
use Rattle.mapping_model.specs.declared.request_spec.RequestSpec.{RequestSpec}
use Rattle.mapping_model.specs.declared.url_spec.UrlSpec.{UrlSpec}
use Rattle.mapping_model.specs.declared.url_spec.UrlSpec.TheVariants as url
use Rattle.mock_request.specs.Cookies.{cookie_pairs}
use Rattle.mock_request.specs.HeaderFields.{texts_of}
use Rattle.mock_request.specs.Query.{query_pairs}
use Rattle.mock_request.specs.Request.{Request}
use Rattle.mock_request.specs.Url.{path_of}
use Rattle.mock_request.specs.Values.{values_of}
use Rattle.path_template.specs.Matching.{bindings_of}
use Rattle.regex.specs.Patterns.{find_str, default_config}
use Rattle.regex_syntax.specs.Grammar.{read}
use Rattle.request_match.specs.Matching.{MeetsMethod, MeetsRequest}
use Rattle.request_match.specs.Parts.Matching.{found_text, MeetsAny, MeetPairs, MeetHeaders, MeetsUrl, MeetsAtPath}
use Rattle.request_match.specs.Parts.Matching.{MeetsBody}
use Rattle.value_match.specs.Matching.{Matches, MatchesValue}
use Rattle.value_match.specs.Patterns.{whole_of, FindsIn}
use Rattle.value_match.specs.declared.value_spec.ValueSpec.{ValueSpec}
use Rattle.value_match.specs.declared.value_spec.ValueSpec.TheVariants as value

-- ---- tests

always : Decides true (Unit {0})
always = (λ _. tt, λ _. refl)

never : Decides false ⊥
never = (λ e. absurd (true≢false (sym e)), λ h. absurd h)

its_own : (b : Bool) → Decides b (IsTrue b)
its_own b = (λ e. e, λ e. e)

same_bytes : (a b : List ℕ) → Decides (bytes_eq a b) (a ≡ b)
same_bytes = bytes_eq-Decides

module _ {X : Type 0} (p : X → Bool) (P : X → Type 0) (each : (x : X) → Decides (p x) (P x)) where
  some : (o : Option X) → Decides (test.some_passes p o) (IsSomeAnd o P)
  some None = never
  some (Some x) = each x

  all : (xs : List X) → Decides (list_all p xs) (All P xs)
  all = Decides-by_and p P (list_all p) each refl (λ x xs. refl)

  any_from : (xs : List X) → list_any p xs ≡ true → Any P xs
  any_from xs is = let found = Any-from_list_any p xs is in
      (found.0, found.1, found.2, found.3, (each found.1).0 found.4)

  any_to : (xs : List X) → Any P xs → list_any p xs ≡ true
  any_to xs found = list_any-from_Any p xs (found.0, found.1, found.2, found.3, (each found.1).1 found.4)

  any : (xs : List X) → Decides (list_any p xs) (Any P xs)
  any xs = (any_from xs, any_to xs)

-- ---- a text within a text

starts : (text bs : List ℕ) → Decides (starts_with ◌==◌ bs text) ((rest : List ℕ) × (bs ≡ text ++ rest))
starts text bs =
    let is = starts_is Decides-eqb bs text (starts_with ◌==◌ bs text) refl in
    (λ e. (drop (length text) bs, is.0 e), λ h. is.1 h.0 h.1)

within : (text : List ℕ) (b : ℕ) (bs : List ℕ)
    → ((rest : List ℕ) × (b ∷ bs ≡ text ++ rest)) ⊎ HasSubslice bs text → HasSubslice (b ∷ bs) text
within text b bs (inl h) = ([], h.0, h.1)
within text b bs (inr h) = (b ∷ h.0, h.1, ap (λ s. b ∷ s) h.2)

within_from : (text : List ℕ) (b : ℕ) (bs before after : List ℕ) → b ∷ bs ≡ before ++ (text ++ after)
    → ((rest : List ℕ) × (b ∷ bs ≡ text ++ rest)) ⊎ HasSubslice bs text
within_from text b bs [] after is = inl (after, is)
within_from text b bs (c ∷ before) after is = inr (before, after, ap (drop 1) is)

only_start
    : (text before after : List ℕ) → [] ≡ before ++ (text ++ after)
    → (rest : List ℕ) × ([] ≡ text ++ rest)
only_start text [] after is = (after, is)
only_start text (c ∷ before) after is = absurd cc

occurs : (text bs : List ℕ) → Decides (test.occurs text bs) (HasSubslice bs text)
occurs text [] =
    Decides-like (starts_with ◌==◌ [] text) (λ h. ([], h.0, h.1)) (λ h. only_start text h.0 h.1 h.2)
    (starts text [])
occurs text (b ∷ bs) =
    Decides-like (starts_with ◌==◌ (b ∷ bs) text || test.occurs text bs) (within text b bs)
    (λ h. within_from text b bs h.0 h.1 h.2)
    (Decides-or (starts_with ◌==◌ (b ∷ bs) text) (test.occurs text bs) (starts text (b ∷ bs)) (occurs text bs))

-- ---- values

finds : (source text : List ℕ) → Decides (test.finds source text) (FindsIn source text)
finds source text =
    some (λ (re, _). is_some (find_str re.value text 0)) (λ (re, _). IsTrue (is_some (find_str re.value text 0)))
    (λ (re, _). its_own (is_some (find_str re.value text 0))) (read default_config (chars source))

meets_value : (m : ValueSpec) (text : List ℕ) → Decides (test.meets_value m text) (MatchesValue m text)
meets_value (value.EqualTo wanted) text = same_bytes text wanted
meets_value (value.EqualToIgnoringCase wanted) text =
    same_bytes (map to_ascii_lowercase text) (map to_ascii_lowercase wanted)
meets_value (value.Contains part) text = occurs part text
meets_value (value.DoesNotContain part) text = Decides-not (test.occurs part text) (occurs part text)
meets_value (value.Matches pattern) text = finds (whole_of pattern) text
meets_value (value.DoesNotMatch pattern) text =
    Decides-not (test.finds (whole_of pattern) text) (finds (whole_of pattern) text)
meets_value value.Absent text = never

is_absent : (m : ValueSpec) → Decides (test.is_absent m) (Matches m None)
is_absent (value.EqualTo wanted) = never
is_absent (value.EqualToIgnoringCase wanted) = never
is_absent (value.Contains part) = never
is_absent (value.DoesNotContain part) = never
is_absent (value.Matches pattern) = never
is_absent (value.DoesNotMatch pattern) = never
is_absent value.Absent = always

meets_option : (m : ValueSpec) (o : Option (List ℕ)) → Decides (test.meets_option m o) (Matches m o)
meets_option m None = is_absent m
meets_option m (Some text) = meets_value m text

meets_any : (m : ValueSpec) (texts : List (List ℕ)) → Decides (test.meets_any m texts) (MeetsAny m texts)
meets_any m [] = is_absent m
meets_any m (text ∷ texts) = any (test.meets_value m) (MatchesValue m) (meets_value m) (text ∷ texts)

meet_pairs
    : (ms : List NamedMatcher) (pairs : List (List ℕ × List ℕ))
    → Decides (test.meet_pairs ms pairs) (MeetPairs ms pairs)
meet_pairs ms pairs =
    all (λ (m : NamedMatcher). test.meets_any m.matcher (values_of m.name pairs))
    (λ m. MeetsAny m.matcher (values_of m.name pairs)) (λ m. meets_any m.matcher (values_of m.name pairs)) ms

meet_headers
    : (ms : List NamedMatcher) (request : Request)
    → Decides (test.meet_headers ms request) (MeetHeaders ms request)
meet_headers ms request =
    all (λ (m : NamedMatcher). test.meets_any m.matcher (texts_of (map to_ascii_lowercase m.name) request.headers))
    (λ m. MeetsAny m.matcher (texts_of (map to_ascii_lowercase m.name) request.headers))
    (λ m. meets_any m.matcher (texts_of (map to_ascii_lowercase m.name) request.headers)) ms

-- ---- parts of a request

meets_method
    : (m : Option (List ℕ)) (method : List ℕ)
    → Decides (test.meets_method m method) (MeetsMethod m method)
meets_method None method = always
meets_method (Some wanted) method =
    Decides-or (bytes_eq wanted (codes "ANY")) (bytes_eq wanted method) (same_bytes wanted (codes "ANY"))
    (same_bytes wanted method)

meets_url : (m : UrlSpec) (text : List ℕ) → Decides (test.meets_url m text) (MeetsUrl m text)
meets_url url.Any text = always
meets_url (url.Url wanted) text = same_bytes text wanted
meets_url (url.UrlPattern pattern) text = finds (whole_of pattern) text
meets_url (url.UrlPath wanted) text = same_bytes (path_of text) wanted
meets_url (url.UrlPathPattern pattern) text = finds (whole_of pattern) (path_of text)
meets_url (url.UrlPathTemplate template parameters) text =
    some (test.meet_pairs parameters) (MeetPairs parameters) (meet_pairs parameters)
    (bindings_of template (path_of text))

-- what a path finds passes, where the path's text spells one
module _
    (p : List Step → Bool) (P : List Step → Type 0)
    (each : (steps : List Step) → Decides (p steps) (P steps)) where
  spelled_from
      : (path : List ℕ) (o : Option (List Step)) → steps_of_path path ≡ o → IsSomeAnd o P
      → (steps : List Step) × SpellsPath path steps × P steps
  spelled_from path None is h = absurd h
  spelled_from path (Some steps) is h = (steps, (path_found_is_spelled path steps).0 is, h)

  spelled_to
      : (path : List ℕ) (steps : List Step) → SpellsPath path steps → P steps → IsSomeAnd (steps_of_path path) P
  spelled_to path steps spells h = subst (λ o. IsSomeAnd o P) (sym ((path_found_is_spelled path steps).1 spells)) h

  spelled
      : (path : List ℕ)
      → Decides (test.some_passes p (steps_of_path path)) ((steps : List Step) × SpellsPath path steps × P steps)
  spelled path =
      Decides-like (test.some_passes p (steps_of_path path)) (spelled_from path (steps_of_path path) refl)
      (λ h. spelled_to path h.0 h.1 h.2) (some p P each (steps_of_path path))

meets_json : (m : JsonSpec) (tree : Tree) → Decides (test.meets_json m tree) (json.Matches m tree)
meets_json (EqualTo expected any_order more) tree =
    some
    (λ e. json.is_equal (record { ignore_array_order = any_order; ignore_extra_elements = more }) e tree)
    (λ e. IsTrue (json.is_equal (record { ignore_array_order = any_order; ignore_extra_elements = more }) e tree))
    (λ e. its_own (json.is_equal (record { ignore_array_order = any_order; ignore_extra_elements = more }) e tree))
    (tree_of_text expected)
meets_json (Path path) tree =
    spelled (λ steps. json.is_something (at steps tree)) (λ steps. IsTrue (json.is_something (at steps tree)))
    (λ steps. its_own (json.is_something (at steps tree))) path

meets_at_path
    : (path : List ℕ) (m : ValueSpec) (tree : Tree)
    → Decides (test.meets_at_path path m tree) (MeetsAtPath path m tree)
meets_at_path path m tree =
    Decides-like (test.meets_at_path path m tree)
    (λ h. record { steps = h.0; spelled = h.1; meets = h.2 }) (λ h. (h.steps, h.spelled, h.meets))
    (spelled (λ steps. test.meets_option m (found_text (at steps tree)))
    (λ steps. Matches m (found_text (at steps tree))) (λ steps. meets_option m (found_text (at steps tree))) path)

meets_body : (bytes : List ℕ) (m : BodyPattern) → Decides (test.meets_body bytes m) (MeetsBody m bytes)
meets_body bytes (body.Value m) =
    Decides-or (test.meets_value m (utf8_lossy bytes)) _ (meets_value m (utf8_lossy bytes))
    (Decides-and (bytes_eq bytes []) (test.is_absent m) (same_bytes bytes []) (is_absent m))
meets_body bytes (body.BinaryEqualTo wanted) = same_bytes bytes wanted
meets_body bytes (body.Json m) =
    some (test.meets_json m) (json.Matches m) (meets_json m) (tree_of_text (utf8_lossy bytes))
meets_body bytes (body.JsonPath path m) =
    some (test.meets_at_path path m) (MeetsAtPath path m) (meets_at_path path m) (tree_of_text (utf8_lossy bytes))

-- ---- the request

abbrev Parts : RequestSpec → Request → Type 0
Parts m r =
    MeetsMethod m.method r.method
    × (MeetsUrl m.url r.url
    × (MeetHeaders m.headers r
    × (MeetPairs m.query (query_pairs r.url)
    × (MeetPairs m.cookies (cookie_pairs r.headers)
    × All (λ pattern. MeetsBody pattern r.body) m.body))))

whole : (m : RequestSpec) (r : Request) → Parts m r → MeetsRequest m r
whole m r h = record {
  method = h.0;
  url = h.1.0;
  headers = h.1.1.0;
  query = h.1.1.1.0;
  cookies = h.1.1.1.1.0;
  body = h.1.1.1.1.1;
}

parts : (m : RequestSpec) (r : Request) → MeetsRequest m r → Parts m r
parts m r h = (h.method, (h.url, (h.headers, (h.query, (h.cookies, h.body)))))

pub meets_request : (m : RequestSpec) (r : Request) → Decides (test.meets_request m r) (MeetsRequest m r)
unfolding test.meets_request
meets_request m r =
    Decides-like _ (whole m r) (parts m r)
    (Decides-and _ _ (meets_method m.method r.method)
    (Decides-and _ _ (meets_url m.url r.url)
    (Decides-and _ _ (meet_headers m.headers r)
    (Decides-and _ _ (meet_pairs m.query (query_pairs r.url))
    (Decides-and _ _ (meet_pairs m.cookies (cookie_pairs r.headers))
    (all (test.meets_body r.body) (λ pattern. MeetsBody pattern r.body) (meets_body r.body) m.body))))))
