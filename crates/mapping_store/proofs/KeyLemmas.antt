-- What the literal URL of a mapping is known by: where a request meets its matcher, by the request's URL or path.
use Rattle.std.proofs.Common.{◌≡◌, ℕ, List, sym, ap, refl, ◌∙◌, ◌⊎◌, inl, inr}
use Rattle.mapping_model.specs.declared.url_spec.UrlSpec.{UrlSpec}
use Rattle.mapping_model.specs.declared.url_spec.UrlSpec.TheVariants as url
use Rattle.mock_request.specs.Request.{Request}
use Rattle.mock_request.specs.Url.{path_of}
use Rattle.request_journal.specs.Choice.{IsEligible}
use Rattle.request_journal.specs.declared.mapping.Mapping.{Mapping}
use Rattle.request_match.specs.Parts.Key.{hash_of, key_of}
use Rattle.request_match.specs.Parts.Matching.{MeetsUrl}
use Rattle.request_match.specs.declared.url_key.UrlKey.{UrlKey}
use Rattle.request_match.specs.declared.url_key.UrlKey.TheVariants as key
use Rattle.mapping_store.specs.declared.entry.Entry.{Entry}
use Rattle.mapping_store.specs.Kept.{Fits, placed_of}

-- it asks for no literal URL, for this one, or for one with this path
abbrev pub IsAmong : List ℕ → UrlKey → Type 0
IsAmong text known =
    (known ≡ key.Any) ⊎ ((known ≡ key_of (url.Url text)) ⊎ (known ≡ key_of (url.UrlPath (path_of text))))

known_by : (spec : UrlSpec) (text : List ℕ) → MeetsUrl spec text → IsAmong text (key_of spec)
known_by url.Any text meets = inl refl
known_by (url.Url wanted) text meets = inr (inl (ap (λ t. key.Url (hash_of t)) (sym meets)))
known_by (url.UrlPattern pattern) text meets = inl refl
known_by (url.UrlPath wanted) text meets = inr (inr (ap (λ t. key.UrlPath (hash_of t)) (sym meets)))
known_by (url.UrlPathPattern pattern) text meets = inl refl
known_by (url.UrlPathTemplate template parameters) text meets = inl refl

module _ (text : List ℕ) where
  among : (a b : UrlKey) → a ≡ b → IsAmong text b → IsAmong text a
  among a b is (inl any) = inl (is ∙ any)
  among a b is (inr (inl by_url)) = inr (inl (is ∙ by_url))
  among a b is (inr (inr by_path)) = inr (inr (is ∙ by_path))

-- an eligible entry is known so
pub eligible_among : (states : List ℕ → List ℕ) (request : Request) (defaults : List Mapping) (e : Entry)
    → Fits defaults e → IsEligible states request (placed_of e).mapping → IsAmong request.url e.key
eligible_among states request defaults e fits eligible =
    among request.url e.key (key_of e.seen.value.request.url) fits.key
    (known_by e.seen.value.request.url request.url eligible.meets.url)
