-- The object that is written for a request matcher: names in byte order; absent fields and empty objects and lists are
-- left out.
use Rattle.std.specs.Prelude.{List, [], ◌∷◌, map, Option, option_map, codes}
use Rattle.json_reading.specs.Written.{with_field, unless_empty}
use Rattle.mapping_model.specs.declared.body_pattern.BodyPattern.{BodyPattern}
use Rattle.mapping_model.specs.declared.named_matcher.NamedMatcher.{NamedMatcher}
use Rattle.mapping_model.specs.declared.request_spec.RequestSpec.{RequestSpec}
use Rattle.mapping_model.specs.declared.url_spec.UrlSpec.{UrlSpec}
use Rattle.mapping_model.specs.declared.url_spec.UrlSpec.TheVariants as url
use Rattle.request_json.specs.BodyWritten.{json_of_pattern}
use Rattle.request_json.specs.ValueWritten.{with_value}
use Rattle.serde_json.specs.View.{items_of}
use Rattle.serde_json.specs.Data.{Data, string, array, object, Members, no_members, put}

-- the members, with each matcher at its name; of a name that stands twice, the last
abbrev pub with_named : List NamedMatcher → Members → Members
with_named [] ms = ms
with_named (m ∷ more) ms = with_named more (put m.name (object (with_value m.matcher no_members)) ms)

abbrev pub json_of_named : List NamedMatcher → Option Data
json_of_named matchers = unless_empty matchers (object (with_named matchers no_members))

abbrev pub json_of_body : List BodyPattern → Option Data
json_of_body patterns = unless_empty patterns (array (items_of (map json_of_pattern patterns)))

abbrev pub with_url : UrlSpec → Members → Members
with_url url.Any ms = ms
with_url (url.Url text) ms = put (codes "url") (string text) ms
with_url (url.UrlPattern pattern) ms = put (codes "urlPattern") (string pattern) ms
with_url (url.UrlPath text) ms = put (codes "urlPath") (string text) ms
with_url (url.UrlPathPattern pattern) ms = put (codes "urlPathPattern") (string pattern) ms
with_url (url.UrlPathTemplate template parameters) ms =
    with_field (codes "pathParameters") (json_of_named parameters) (put (codes "urlPathTemplate") (string template) ms)

abbrev pub json_of_request : RequestSpec → Data
json_of_request request =
    object
    (with_field (codes "bodyPatterns") (json_of_body request.body)
    (with_field (codes "cookies") (json_of_named request.cookies)
    (with_field (codes "queryParameters") (json_of_named request.query)
    (with_field (codes "headers") (json_of_named request.headers)
    (with_url request.url (with_field (codes "method") (option_map string request.method) no_members))))))
