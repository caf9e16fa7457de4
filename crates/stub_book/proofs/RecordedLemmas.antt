-- A recorded mapping has nothing that can be refused: its URL is plain, no matcher of it has a pattern, and it expects
-- no JSON. So only memory can be lacking where it is built.
use Rattle.std.proofs.Common.{◌≡◌, ℕ, suc, Bool, true, false, List, [], ◌∷◌, ◌++◌, All, Any, Option, refl, ⊎_elim}
use Rattle.std.specs.Prelude.{if◌then◌else◌}
use Rattle.std.specs.List.{filter_map}
use Rattle.std.specs.Str.{is_utf8}
use Rattle.std.proofs.lemmas.List.Elements.{All-append, All-cons, All-contains, All-map, All-nil, All-same}
use Rattle.mapping_model.specs.declared.body_pattern.BodyPattern.{BodyPattern}
use Rattle.mapping_model.specs.declared.body_pattern.BodyPattern.TheVariants as pattern
use Rattle.mapping_model.specs.declared.scenario_spec.ScenarioSpec.{ScenarioSpec}
use Rattle.mock_request.specs.Request.{Header}
use Rattle.recorder.specs.Key.{headers_named}
use Rattle.recorder.specs.Stubs.{body_pattern, first_value, header_matcher, mappings_of, numbered, request_of}
use Rattle.recorder.specs.declared.exchange.Exchange.{Exchange}
use Rattle.request_match.specs.Refusal.{IsRefusal, head_matchers}
use Rattle.request_match.specs.Parts.Refusal.{IsBodyRefusal, matcher_in, matchers_of, path_in, text_in}
use Rattle.request_match.specs.declared.error.RequestMatchError.{RequestMatchError}
use Rattle.request_match.specs.declared.error.RequestMatchError.TheVariants.{BadUrl, BadPattern, NotJson}
use Rattle.request_match.specs.declared.error.RequestMatchError.TheVariants.{NumberNotWhole, BadPath, OutOfMemory}
use Rattle.value_match.specs.Refusal.{MayBeRefused}
use Rattle.value_match.specs.declared.value_spec.ValueSpec.{ValueSpec}
use Rattle.value_match.specs.declared.value_spec.ValueSpec.TheVariants as value
use Rattle.stub_book.specs.Inner.Recorded.{LacksOnlyMemory}

abbrev IsPlain : ValueSpec → Type 0
IsPlain matcher = ¬ (MayBeRefused matcher)

abbrev IsOnlyMemory : (RequestMatchError → Type 0) → Type 0
IsOnlyMemory IsRefused = (error : RequestMatchError) → IsRefused error → error ≡ OutOfMemory

none_of : {X : Type 0} (P : X → Type 0) (xs : List X) → All (λ x. ¬ (P x)) xs → ¬ (Any P xs)
none_of P xs none some = All-contains (λ x. ¬ (P x)) xs some.1 none (some.0, some.2, some.3) some.4

none_in_empty : {X : Type 0} (P : X → Type 0) (xs : List X) → xs ≡ [] → ¬ (Any P xs)
none_in_empty P xs empty = none_of P xs (All-same (λ x. ¬ (P x)) xs [] empty (All-nil (λ x. ¬ (P x))))

-- ---- headers

is_plain : (headers : List Header) → IsPlain (first_value headers)
is_plain [] refused = refused
is_plain (header ∷ headers) refused = refused

module _ (captured : List (List ℕ)) (exchange : Exchange) where
  plain_headers : All IsPlain (matchers_of (request_of captured exchange).headers)
  plain_headers =
      All-map IsPlain (λ m. m.matcher) _
      (All-map (λ m. IsPlain m.matcher) (header_matcher exchange.request.headers) captured
      (λ k d within. is_plain (headers_named _ exchange.request.headers)))

  plain_head : All IsPlain (head_matchers (request_of captured exchange))
  plain_head =
      let headers : List ValueSpec = matchers_of (request_of captured exchange).headers in
      let none : All IsPlain [] = All-nil IsPlain in
      All-append IsPlain (headers ++ []) [] (All-append IsPlain headers [] plain_headers none) none

-- ---- the body

pattern_lacks
    : (p : BodyPattern) → All IsPlain (filter_map matcher_in (p ∷ [])) → filter_map text_in (p ∷ []) ≡ []
    → filter_map path_in (p ∷ []) ≡ [] → IsOnlyMemory (IsBodyRefusal (p ∷ []))
pattern_lacks p plain texts paths BadUrl refused = absurd refused
pattern_lacks p plain texts paths BadPattern refused = absurd (none_of MayBeRefused _ plain refused)
pattern_lacks p plain texts paths NotJson refused = absurd (none_in_empty _ _ texts refused.1)
pattern_lacks p plain texts paths NumberNotWhole refused = absurd (none_in_empty _ _ texts refused.2)
pattern_lacks p plain texts paths BadPath refused = absurd (none_in_empty _ _ paths refused.2)
pattern_lacks p plain texts paths OutOfMemory refused = refl

value_lacks : (matcher : ValueSpec) → IsPlain matcher → IsOnlyMemory (IsBodyRefusal (pattern.Value matcher ∷ []))
value_lacks matcher plain =
    pattern_lacks (pattern.Value matcher) (All-cons IsPlain matcher [] plain (All-nil IsPlain)) refl refl

bytes_lack
    : (bytes : List ℕ) (is_text : Bool)
    → IsOnlyMemory
    (IsBodyRefusal ((if is_text then pattern.Value (value.EqualTo bytes) else pattern.BinaryEqualTo bytes) ∷ []))
bytes_lack bytes true = value_lacks (value.EqualTo bytes) (λ refused. refused)
bytes_lack bytes false = pattern_lacks (pattern.BinaryEqualTo bytes) (All-nil IsPlain) refl refl

body_lacks : (body : List ℕ) → IsOnlyMemory (IsBodyRefusal (body_pattern body ∷ []))
body_lacks [] = value_lacks value.Absent (λ refused. refused)
body_lacks (b ∷ bs) = bytes_lack (b ∷ bs) (is_utf8 (b ∷ bs))

-- ---- the mappings

module _ (captured : List (List ℕ)) where
  request_lacks : (exchange : Exchange) → IsOnlyMemory (IsRefusal (request_of captured exchange))
  request_lacks exchange BadUrl refused = absurd (refused tt)
  request_lacks exchange BadPattern refused =
      ⊎_elim (λ head. absurd (none_of MayBeRefused _ (plain_head captured exchange) head))
      (body_lacks exchange.request.body BadPattern) refused.1
  request_lacks exchange NotJson refused = body_lacks exchange.request.body NotJson refused.2
  request_lacks exchange NumberNotWhole refused = body_lacks exchange.request.body NumberNotWhole refused.2
  request_lacks exchange BadPath refused = body_lacks exchange.request.body BadPath refused.2
  request_lacks exchange OutOfMemory refused = refl

  numbered_lack
      : (number index : ℕ) (parts : List (Exchange × Option ScenarioSpec))
      → All LacksOnlyMemory (numbered captured number index parts)
  numbered_lack number index [] = All-nil LacksOnlyMemory
  numbered_lack number index (part ∷ parts) =
      All-cons LacksOnlyMemory _ _ (request_lacks part.0) (numbered_lack number (suc index) parts)

  pub recorded_lack_only_memory
      : (exchanges : List Exchange) (repeats : Bool) (number : ℕ)
      → All LacksOnlyMemory (mappings_of captured exchanges repeats number)
  recorded_lack_only_memory exchanges repeats number = numbered_lack number 0 _
