-- The JSON of a mapping has its names in order, and the numbers of its `jsonBody`, its status and its priority.
use Rattle.std.proofs.Common.{◌≡◌, ◌<◌, ◌^◌, ℕ, ℤ, pos, negsuc, nat_abs, List, [], ◌∷◌, length, Bool, true, false, cond}
use Rattle.std.proofs.Common.{Option, Some, None, IfSome, option_map, codes, bytes_eq, map, arith}
use Rattle.std.specs.List.{AllByRecursion}
use Rattle.base64.specs.Engines.{standard}
use Rattle.base64.specs.GeneralPurpose.{encode_of}
use Rattle.admin_json.specs.Mappings.{json_of_held, json_of_list, json_of_mappings}
use Rattle.admin_json.specs.Recordings.{json_of_recorded}
use Rattle.admin_json.specs.WholeNumbers.{HasWholeBody, HasWholeJson, HasWholeNumbers}
use Rattle.admin_json.specs.Written.{json_of_count, json_of_meta, only_member}
use Rattle.admin_json.proofs.Regular.{IsRegular, AreRegular, FitsWord, has_put, ordered_put, plain, word_is_whole}
use Rattle.admin_json.proofs.WholeJson.{word_text}
use Rattle.json_match.specs.declared.json_spec.JsonSpec.TheVariants as json
use Rattle.json_reading.specs.Written.{with_field, with_flag}
use Rattle.mapping_json.specs.Writing.{json_of_id, json_of_mapping, json_of_priority, with_names, with_scenario}
use Rattle.mapping_model.specs.declared.body_pattern.BodyPattern.{BodyPattern}
use Rattle.mapping_model.specs.declared.body_pattern.BodyPattern.TheVariants as pattern
use Rattle.mapping_model.specs.declared.mapping_spec.MappingSpec.{MappingSpec}
use Rattle.mapping_model.specs.declared.named_matcher.NamedMatcher.{NamedMatcher}
use Rattle.mapping_model.specs.declared.request_spec.RequestSpec.{RequestSpec}
use Rattle.mapping_model.specs.declared.response_spec.Body.{Body}
use Rattle.mapping_model.specs.declared.response_spec.Body.TheVariants as body
use Rattle.mapping_model.specs.declared.response_spec.Content.{Content}
use Rattle.mapping_model.specs.declared.response_spec.Content.TheVariants.{Plain, Templated}
use Rattle.mapping_model.specs.declared.response_spec.ResponseSpec.{ResponseSpec}
use Rattle.mapping_model.specs.declared.scenario_spec.ScenarioSpec.{ScenarioSpec}
use Rattle.mapping_model.specs.declared.url_spec.UrlSpec.{UrlSpec}
use Rattle.mapping_model.specs.declared.url_spec.UrlSpec.TheVariants as url
use Rattle.request_journal.specs.declared.mapping.Mapping.{Mapping}
use Rattle.request_json.specs.BodyWritten.{json_of_pattern, with_pattern, written_expected}
use Rattle.request_json.specs.RequestWritten.{json_of_body, json_of_named, json_of_request, with_named, with_url}
use Rattle.request_json.specs.ValueWritten.{with_value}
use Rattle.response_json.specs.Reading.{Line}
use Rattle.response_json.specs.Writing as response
use Rattle.serde_json.specs.Data.{unsigned, Data, boolean, number, string, object, Items, Members, no_members, put}
use Rattle.serde_json.specs.View.{items_of}
use Rattle.serde_json.specs.Written.{has_float}
use Rattle.template_tree.specs.Source.{Source}
use Rattle.value_match.specs.declared.value_spec.ValueSpec.{ValueSpec}
use Rattle.value_match.specs.declared.value_spec.ValueSpec.TheVariants as value

-- its numbers have 64 bits, and its names are in order
abbrev Fits : Data → Type 0
Fits d = IsRegular FitsWord d

abbrev AllFit : Items → Type 0
AllFit ds = AreRegular FitsWord ds

abbrev Are : Members → Type 0
Are ms = Fits (object ms)

one_more : (k : List ℕ) (d : Data) (ms : Members) → Fits d → Are ms → Are (put k d ms)
one_more k d ms here rest = (ordered_put k d ms rest.0, has_put FitsWord k d ms here rest.1)

field
    : (k : List ℕ) (o : Option Data) (ms : Members) → IfSome o Fits → Are ms
    → Are (with_field k o ms)
field k None ms here rest = rest
field k (Some d) ms here rest = one_more k d ms here rest

text
    : (k : List ℕ) (o : Option (List ℕ)) (ms : Members) → Are ms
    → Are (with_field k (option_map string o) ms)
text k None ms rest = rest
text k (Some s) ms rest = one_more k (string s) ms tt rest

flag : (k : List ℕ) (b : Bool) (ms : Members) → Are ms → Are (with_flag k b ms)
flag k true ms rest = one_more k (boolean true) ms tt rest
flag k false ms rest = rest

-- ---- requests

of_value : (m : ValueSpec) (ms : Members) → Are ms → Are (with_value m ms)
of_value (value.EqualTo s) ms rest = one_more (codes "equalTo") (string s) ms tt rest
of_value (value.EqualToIgnoringCase s) ms rest =
    one_more (codes "caseInsensitive") (boolean true) (put (codes "equalTo") (string s) ms) tt
    (one_more (codes "equalTo") (string s) ms tt rest)
of_value (value.Contains s) ms rest = one_more (codes "contains") (string s) ms tt rest
of_value (value.DoesNotContain s) ms rest = one_more (codes "doesNotContain") (string s) ms tt rest
of_value (value.Matches s) ms rest = one_more (codes "matches") (string s) ms tt rest
of_value (value.DoesNotMatch s) ms rest = one_more (codes "doesNotMatch") (string s) ms tt rest
of_value value.Absent ms rest = one_more (codes "absent") (boolean true) ms tt rest

of_named : (matchers : List NamedMatcher) (ms : Members) → Are ms → Are (with_named matchers ms)
of_named [] ms rest = rest
of_named (m ∷ more) ms rest =
    of_named more (put m.name (object (with_value m.matcher no_members)) ms)
    (one_more m.name (object (with_value m.matcher no_members)) ms (of_value m.matcher no_members (tt, tt)) rest)

named : (matchers : List NamedMatcher) → IfSome (json_of_named matchers) Fits
named [] = tt
named (m ∷ more) = of_named (m ∷ more) no_members (tt, tt)

of_pattern : (p : BodyPattern) (ms : Members) → Are ms → Are (with_pattern p ms)
of_pattern (pattern.Value m) ms rest = of_value m ms rest
of_pattern (pattern.BinaryEqualTo bytes) ms rest =
    one_more (codes "binaryEqualTo") (string (encode_of standard bytes)) ms tt rest
of_pattern (pattern.Json (json.EqualTo expected any_order more)) ms rest =
    let expects = put (codes "equalToJson") (string (written_expected expected)) ms in
    let ordered = with_flag (codes "ignoreArrayOrder") any_order expects in
    flag (codes "ignoreExtraElements") more ordered
    (flag (codes "ignoreArrayOrder") any_order expects
    (one_more (codes "equalToJson") (string (written_expected expected)) ms tt rest))
of_pattern (pattern.Json (json.Path path)) ms rest = one_more (codes "matchesJsonPath") (string path) ms tt rest
of_pattern (pattern.JsonPath expression m) ms rest =
    let inner = put (codes "expression") (string expression) no_members in
    one_more (codes "matchesJsonPath") (object (with_value m inner)) ms
    (of_value m inner (one_more (codes "expression") (string expression) no_members tt (tt, tt))) rest

patterns : (ps : List BodyPattern) → AllFit (items_of (map json_of_pattern ps))
patterns [] = tt
patterns (p ∷ ps) = (of_pattern p no_members (tt, tt), patterns ps)

of_body : (ps : List BodyPattern) → IfSome (json_of_body ps) Fits
of_body [] = tt
of_body (p ∷ ps) = patterns (p ∷ ps)

of_url : (m : UrlSpec) (ms : Members) → Are ms → Are (with_url m ms)
of_url url.Any ms rest = rest
of_url (url.Url s) ms rest = one_more (codes "url") (string s) ms tt rest
of_url (url.UrlPattern s) ms rest = one_more (codes "urlPattern") (string s) ms tt rest
of_url (url.UrlPath s) ms rest = one_more (codes "urlPath") (string s) ms tt rest
of_url (url.UrlPathPattern s) ms rest = one_more (codes "urlPathPattern") (string s) ms tt rest
of_url (url.UrlPathTemplate s parameters) ms rest =
    field (codes "pathParameters") (json_of_named parameters) (put (codes "urlPathTemplate") (string s) ms)
    (named parameters) (one_more (codes "urlPathTemplate") (string s) ms tt rest)

of_request : (r : RequestSpec) → Fits (json_of_request r)
of_request r =
    field (codes "bodyPatterns") (json_of_body r.body) _ (of_body r.body)
    (field (codes "cookies") (json_of_named r.cookies) _ (named r.cookies)
    (field (codes "queryParameters") (json_of_named r.query) _ (named r.query)
    (field (codes "headers") (json_of_named r.headers) _ (named r.headers)
    (of_url r.url _ (text (codes "method") r.method no_members (tt, tt))))))

-- ---- responses

kept_text
    : (b : Bool) (d : Data) (ds : List Data) → Fits d → AllByRecursion Fits ds
    → AllByRecursion Fits (cond b (d ∷ ds) ds)
kept_text true d ds here rest = (here, rest)
kept_text false d ds here rest = rest

all_texts : (name : List ℕ) (lines : List Line) → AllByRecursion Fits (response.texts_of name lines)
all_texts name [] = tt
all_texts name (line ∷ lines) =
    kept_text (bytes_eq line.name name) (string line.value) (response.texts_of name lines) tt (all_texts name lines)

items : (ds : List Data) → AllByRecursion Fits ds → AllFit (items_of ds)
items [] all = tt
items (d ∷ ds) all = (all.0, items ds all.1)

of_texts : (ds : List Data) → AllByRecursion Fits ds → Fits (response.json_of_texts ds)
of_texts [] all = tt
of_texts (d ∷ []) all = all.0
of_texts (d ∷ e ∷ ds) all = items (d ∷ e ∷ ds) all

of_lines : (all lines : List Line) (ms : Members) → Are ms → Are (response.with_lines all lines ms)
of_lines all [] ms rest = rest
of_lines all (line ∷ lines) ms rest =
    let here = response.json_of_texts (response.texts_of line.name all) in
    of_lines all lines (put line.name here ms)
    (one_more line.name here ms (of_texts (response.texts_of line.name all) (all_texts line.name all)) rest)

of_headers : (lines : List Line) → IfSome (response.json_of_headers lines) Fits
of_headers [] = tt
of_headers (line ∷ lines) = of_lines (line ∷ lines) (line ∷ lines) no_members (tt, tt)

of_text : (s : List ℕ) (ms : Members) → Are ms → Are (response.with_text s ms)
of_text [] ms rest = rest
of_text (b ∷ bs) ms rest = one_more (codes "body") (string (b ∷ bs)) ms tt rest

of_found
    : (found : Body (List ℕ)) (ms : Members) → HasWholeJson found → Are ms
    → Are (response.with_body found ms)
of_found body.Empty ms whole rest = rest
of_found (body.Text s) ms whole rest = of_text s ms rest
of_found (body.Json s) ms whole rest =
    one_more (codes "jsonBody") (response.json_of_text s) ms (word_text s whole) rest
of_found (body.Base64 bytes) ms whole rest =
    one_more (codes "base64Body") (string (encode_of standard bytes)) ms tt rest

whole_text : (found : Body Source) → HasWholeJson found → HasWholeJson (response.text_body found)
whole_text body.Empty whole = tt
whole_text (body.Text s) whole = tt
whole_text (body.Json s) whole = whole
whole_text (body.Base64 bytes) whole = tt

of_parts
    : (lines : List Line) (found : Body (List ℕ)) (ms : Members) → HasWholeJson found → Are ms
    → Are (response.with_parts lines found ms)
of_parts lines found ms whole rest =
    of_found found (with_field (codes "headers") (response.json_of_headers lines) ms) whole
    (field (codes "headers") (response.json_of_headers lines) ms (of_headers lines) rest)

of_content
    : (content : Content) (ms : Members) → HasWholeBody content → Are ms
    → Are (response.with_content content ms)
of_content (Plain headers found) ms whole rest = of_parts headers found ms whole rest
of_content (Templated headers found) ms whole rest =
    one_more (codes "transformers") response.template_transformers _ (tt, tt)
    (of_parts (map response.text_line headers) (response.text_body found) ms (whole_text found whole) rest)

of_response
    : (r : ResponseSpec) → r.status < 2 ^ 64 → HasWholeBody r.content
    → Fits (response.json_of_response r)
unfolding response.json_of_response
of_response r status whole =
    of_content r.content (response.with_status r.status) whole
    (one_more (codes "status") (number (unsigned r.status)) no_members status (tt, tt))

-- ---- mappings

of_scenario : (o : Option ScenarioSpec) (ms : Members) → Are ms → Are (with_scenario o ms)
of_scenario None ms rest = rest
of_scenario (Some s) ms rest =
    text (codes "newScenarioState") s.next _
    (text (codes "requiredScenarioState") s.required _
    (one_more (codes "scenarioName") (string s.name) ms tt rest))

of_id : (o : Option (List ℕ)) → IfSome (option_map json_of_id o) Fits
of_id None = tt
of_id (Some id) = tt

of_priority
    : (o : Option ℤ) → IfSome o (λ p. nat_abs p < 2 ^ 63) → IfSome (option_map json_of_priority o) Fits
of_priority None fits = tt
of_priority (Some (pos n)) fits = omega (arith, fits)
of_priority (Some (negsuc n)) fits = omega (arith, fits)

of_names
    : (m : MappingSpec) → IfSome m.priority (λ p. nat_abs p < 2 ^ 63) → Are (with_names m no_members)
of_names m priority =
    of_scenario m.scenario _
    (field (codes "priority") (option_map json_of_priority m.priority) _ (of_priority m.priority priority)
    (text (codes "name") m.name _
    (field (codes "id") (option_map json_of_id m.id) no_members (of_id m.id) (tt, tt))))

of_mapping : (mapping : Mapping) → HasWholeNumbers mapping → Fits (json_of_held mapping)
unfolding json_of_mapping
of_mapping mapping whole =
    let m = mapping.spec in
    let named = with_names m no_members in
    let requested = put (codes "request") (json_of_request m.request) named in
    let answered = put (codes "response") (response.json_of_response m.response) requested in
    one_more (codes "id") (json_of_id mapping.id) answered tt
    (one_more (codes "response") (response.json_of_response m.response) requested
    (of_response m.response whole.status whole.json_body)
    (one_more (codes "request") (json_of_request m.request) named (of_request m.request)
    (of_names m whole.priority)))

-- it has no float
pub no_float : (mapping : Mapping) → HasWholeNumbers mapping → has_float (json_of_held mapping) ≡ false
no_float mapping whole = plain FitsWord word_is_whole (json_of_held mapping) (of_mapping mapping whole)

-- ---- lists

of_list
    : (mappings : List Mapping) → AllByRecursion HasWholeNumbers mappings
    → AllFit (items_of (map json_of_held mappings))
of_list [] all = tt
of_list (mapping ∷ mappings) all = (of_mapping mapping all.0, of_list mappings all.1)

of_count : (k : List ℕ) (n : ℕ) → n < 2 ^ 64 → Fits (only_member k (json_of_count n))
of_count k n fits = one_more k (json_of_count n) no_members fits (tt, tt)

pub mappings_regular
    : (mappings : List Mapping) → length mappings < 2 ^ 64 → AllByRecursion HasWholeNumbers mappings
    → IsRegular FitsWord (json_of_mappings mappings)
mappings_regular mappings fits all =
    let listed = put (codes "mappings") (json_of_list mappings) no_members in
    one_more (codes "meta") (json_of_meta (length mappings)) listed
    (of_count (codes "total") (length mappings) fits)
    (one_more (codes "mappings") (json_of_list mappings) no_members (of_list mappings all) (tt, tt))

pub recorded_regular
    : (mappings : List Mapping) (skipped : ℕ) → skipped < 2 ^ 64 → AllByRecursion HasWholeNumbers mappings
    → IsRegular FitsWord (json_of_recorded mappings skipped)
recorded_regular mappings skipped fits all =
    let listed = put (codes "mappings") (json_of_list mappings) no_members in
    one_more (codes "skipped") (json_of_count skipped) listed fits
    (one_more (codes "mappings") (json_of_list mappings) no_members (of_list mappings all) (tt, tt))
