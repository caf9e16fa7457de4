-- Bytes that are UTF-8 or not, as bodies.
use Rattle.std.proofs.Common.{◌≡◌, ℕ, true, false, List, [], ◌∷◌, length, refl}
use Rattle.std.specs.Str.{IsUtf8, is_utf8}
use Rattle.std.proofs.lemmas.Bool.{cond-true, cond-false, false_from_ne_true}
use Rattle.std.proofs.lemmas.Str.{IsUtf8-from_is_utf8}
use Rattle.mapping_model.specs.Body.{text_body}
use Rattle.mapping_model.specs.declared.body_pattern.BodyPattern.TheVariants as pattern
use Rattle.mapping_model.specs.declared.response_spec.Body.TheVariants as body
use Rattle.value_match.specs.declared.value_spec.ValueSpec.TheVariants as value
use Rattle.recorder.specs.Stubs.{body_pattern, reply_body}

pub not_utf8 : (bytes : List ℕ) → ¬ (IsUtf8 bytes) → is_utf8 bytes ≡ false
not_utf8 bytes other = false_from_ne_true (is_utf8 bytes) (λ is. other (IsUtf8-from_is_utf8 bytes is))

pub empty_pattern : (bytes : List ℕ) → length bytes ≡ 0 → body_pattern bytes ≡ pattern.Value value.Absent
empty_pattern [] none = refl
empty_pattern (b ∷ bs) none = absurd (cc)

pub text_pattern
    : (bytes : List ℕ) → (length bytes ≡ 0 → ⊥) → is_utf8 bytes ≡ true
    → body_pattern bytes ≡ pattern.Value (value.EqualTo bytes)
text_pattern [] some is = absurd (some refl)
text_pattern (b ∷ bs) some is = cond-true (is_utf8 (b ∷ bs)) _ _ is

pub octets_pattern
    : (bytes : List ℕ) → (length bytes ≡ 0 → ⊥) → is_utf8 bytes ≡ false
    → body_pattern bytes ≡ pattern.BinaryEqualTo bytes
octets_pattern [] some other = absurd (some refl)
octets_pattern (b ∷ bs) some other = cond-false (is_utf8 (b ∷ bs)) _ _ other

pub text_reply : (bytes : List ℕ) → is_utf8 bytes ≡ true → reply_body bytes ≡ text_body bytes
text_reply bytes is = cond-true (is_utf8 bytes) _ _ is

pub octets_reply : (bytes : List ℕ) → is_utf8 bytes ≡ false → reply_body bytes ≡ body.Base64 bytes
octets_reply bytes other = cond-false (is_utf8 bytes) _ _ other
