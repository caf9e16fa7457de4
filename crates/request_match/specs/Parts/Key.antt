-- What a literal URL is known by: a request whose URL isn't known by it doesn't meet the matcher.
use Rattle.std.specs.Prelude.{◌≡◌, ℕ, List}
use Rattle.std.specs.Hash.FoldHasher.{initial, write, finish}
use Rattle.mapping_model.specs.declared.url_spec.UrlSpec.{UrlSpec}
use Rattle.mapping_model.specs.declared.url_spec.UrlSpec.TheVariants as url
use Rattle.mock_request.specs.Url.{path_of}
use Rattle.request_match.specs.declared.url_key.UrlKey.{UrlKey}
use Rattle.request_match.specs.declared.url_key.UrlKey.TheVariants as key

abbrev pub hash_of : List ℕ → ℕ
hash_of text = finish (write initial text)

abbrev pub key_of : UrlSpec → UrlKey
key_of (url.Url text) = key.Url (hash_of text)
key_of (url.UrlPath text) = key.UrlPath (hash_of text)
key_of url.Any = key.Any
key_of (url.UrlPattern pattern) = key.Any
key_of (url.UrlPathPattern pattern) = key.Any
key_of (url.UrlPathTemplate template parameters) = key.Any

-- the URL of a request may be the one that is known by this
abbrev pub MayHave : UrlKey → List ℕ → Type 0
MayHave key.Any text = Unit {0}
MayHave (key.Url hash) text = hash ≡ hash_of text
MayHave (key.UrlPath hash) text = hash ≡ hash_of (path_of text)
