-- Which request matcher an object spells (WireMock, "Request Matching").
use Rattle.std.specs.Prelude.{ℕ, List, [], ◌∷◌, Option, Some, None, unwrap_or, codes}
use Rattle.json_reading.specs.Fields.{only, optional, text_field, list_of, members_of}
use Rattle.json_reading.specs.Reading.{both, read_map, read_then, either}
use Rattle.json_reading.specs.declared.kind.Kind.TheVariants.{Misshapen, TwoUrls}
use Rattle.json_reading.specs.declared.reading.Reading.{Reading}
use Rattle.json_reading.specs.declared.reading.Reading.TheVariants.{Read, Wrong}
use Rattle.mapping_model.specs.declared.body_pattern.BodyPattern.{BodyPattern}
use Rattle.mapping_model.specs.declared.named_matcher.NamedMatcher.{NamedMatcher}
use Rattle.mapping_model.specs.declared.request_spec.RequestSpec.{RequestSpec}
use Rattle.mapping_model.specs.declared.url_spec.UrlSpec.{UrlSpec}
use Rattle.mapping_model.specs.declared.url_spec.UrlSpec.TheVariants as url
use Rattle.request_json.specs.BodyReading.{reading_of_body}
use Rattle.request_json.specs.ValueReading.{word, reading_of_value}
use Rattle.serde_json.specs.Data.{Data}
use Rattle.serde_json.specs.Find.{get}

abbrev pub request_fields : List (List ℕ)
request_fields =
    codes "method" ∷ codes "url" ∷ codes "urlPattern" ∷ codes "urlPath" ∷ codes "urlPathPattern"
    ∷ codes "urlPathTemplate" ∷ codes "headers" ∷ codes "queryParameters" ∷ codes "cookies"
    ∷ codes "pathParameters" ∷ codes "bodyPatterns" ∷ []

-- an object with a value matcher at each name
abbrev pub named_matcher_of : List ℕ → Data → Reading NamedMatcher
named_matcher_of k d = read_map (λ matcher. record { name = k; matcher = matcher }) (reading_of_value d)

abbrev pub named_of : Data → Reading (List NamedMatcher)
named_of d = members_of named_matcher_of d

-- an absent field is an empty one
abbrev pub named_field : List ℕ → Data → Reading (List NamedMatcher)
named_field name d = read_map (λ o. unwrap_or o []) (optional named_of (get name d))

abbrev pub body_field : Data → Reading (List BodyPattern)
body_field d = read_map (λ o. unwrap_or o []) (optional (list_of reading_of_body) (get (codes "bodyPatterns") d))

-- path parameters are those of a template
abbrev pub template_with : Option (List ℕ) → Option (List NamedMatcher) → Reading (Option UrlSpec)
template_with None None = Read None
template_with None (Some parameters) = Wrong Misshapen
template_with (Some template) parameters = Read (Some (url.UrlPathTemplate template (unwrap_or parameters [])))

abbrev pub template_in : Data → Reading (Option UrlSpec)
template_in d =
    read_then (λ p. template_with p.0 p.1)
    (both (text_field (codes "urlPathTemplate") d) (optional named_of (get (codes "pathParameters") d)))

-- the one field that names a URL, if there is one
abbrev pub url_in : Data → Reading (Option UrlSpec)
url_in d =
    either TwoUrls (word (codes "url") url.Url d)
    (either TwoUrls (word (codes "urlPattern") url.UrlPattern d)
    (either TwoUrls (word (codes "urlPath") url.UrlPath d)
    (either TwoUrls (word (codes "urlPathPattern") url.UrlPathPattern d) (template_in d))))

abbrev pub url_of : Data → Reading UrlSpec
url_of d = read_map (λ o. unwrap_or o url.Any) (url_in d)

abbrev pub request_with :
    ((Option (List ℕ) × UrlSpec)
    × ((List NamedMatcher × List NamedMatcher) × (List NamedMatcher × List BodyPattern)))
    → RequestSpec
request_with p = record {
  method = p.0.0;
  url = p.0.1;
  headers = p.1.0.0;
  query = p.1.0.1;
  cookies = p.1.1.0;
  body = p.1.1.1;
}

abbrev pub reading_of_request : Data → Reading RequestSpec
reading_of_request d =
    only request_fields d
    (read_map request_with
    (both (both (text_field (codes "method") d) (url_of d))
    (both (both (named_field (codes "headers") d) (named_field (codes "queryParameters") d))
    (both (named_field (codes "cookies") d) (body_field d)))))
