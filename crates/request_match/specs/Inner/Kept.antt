-- For private clauses: what a URL test and a body test were built from.
use Rattle.std.specs.Prelude.{◌≡◌}
use Rattle.json_bridge.specs.Path.{SpellsPath}
use Rattle.mapping_model.specs.declared.body_pattern.BodyPattern.{BodyPattern}
use Rattle.mapping_model.specs.declared.body_pattern.BodyPattern.TheVariants as body
use Rattle.mapping_model.specs.declared.url_spec.UrlSpec.{UrlSpec}
use Rattle.mapping_model.specs.declared.url_spec.UrlSpec.TheVariants as url
use Rattle.request_match.specs.declared.body_test.BodyKind.{BodyKind}
use Rattle.request_match.specs.declared.body_test.BodyKind.TheVariants as kept_body
use Rattle.request_match.specs.declared.url_test.UrlKind.{UrlKind}
use Rattle.request_match.specs.declared.url_test.UrlKind.TheVariants as kept
use Rattle.value_match.specs.declared.value_spec.ValueSpec.TheVariants.{Matches}

abbrev pub url_spec_of : UrlKind → UrlSpec
url_spec_of kept.Any = url.Any
url_spec_of (kept.Url text) = url.Url text
url_spec_of (kept.UrlPattern text matcher) = url.UrlPattern text
url_spec_of (kept.UrlPath text) = url.UrlPath text
url_spec_of (kept.UrlPathPattern text matcher) = url.UrlPathPattern text
url_spec_of (kept.UrlPathTemplate template parameters) = url.UrlPathTemplate template parameters.items

-- a pattern's matcher is that of its text
abbrev pub KeepsPattern : UrlKind → Type 0
KeepsPattern kept.Any = Unit {0}
KeepsPattern (kept.Url text) = Unit {0}
KeepsPattern (kept.UrlPattern text matcher) = matcher ≡ Matches text
KeepsPattern (kept.UrlPath text) = Unit {0}
KeepsPattern (kept.UrlPathPattern text matcher) = matcher ≡ Matches text
KeepsPattern (kept.UrlPathTemplate template parameters) = Unit {0}

abbrev pub body_pattern_of : BodyKind → BodyPattern
body_pattern_of (kept_body.Value matcher) = body.Value matcher
body_pattern_of (kept_body.BinaryEqualTo bytes) = body.BinaryEqualTo bytes
body_pattern_of (kept_body.Json matcher) = body.Json matcher
body_pattern_of (kept_body.JsonPath expression path matcher) = body.JsonPath expression matcher

-- a path is what its expression spells
abbrev pub KeepsPath : BodyKind → Type 0
KeepsPath (kept_body.Value matcher) = Unit {0}
KeepsPath (kept_body.BinaryEqualTo bytes) = Unit {0}
KeepsPath (kept_body.Json matcher) = Unit {0}
KeepsPath (kept_body.JsonPath expression path matcher) = SpellsPath expression path
