-- A header that `http` took is one that it can hold.
use Rattle.std.proofs.Common.{◌≡◌, ℕ, ◌≤◌, ◌<◌, Bool, true, false, List, length, refl, sym, ◌∙◌, arith, inl, inr, ◌⊎◌}
use Rattle.std.specs.Prelude.{nat_le}
use Rattle.std.specs.List.{list_all}
use Rattle.std.proofs.lemmas.Bool.{false≢true}
use Rattle.std.proofs.lemmas.Bool.Decides.{leb_tells}
use Rattle.std.proofs.lemmas.List.Sums.{list_all-from_AllPass}
use Rattle.http_header.specs.FieldName.{IsFieldName}
use Rattle.http_header.specs.FieldValue.{FieldValue, IsFieldValue, plain_value}
use Rattle.http_header.specs.HeaderMap.{Entries, append}
use Rattle.http_header.specs.Token.{is_value_byte, lowercase}
use Rattle.mapping_model.specs.declared.reply.ReplyHeader.{ReplyHeader}
use Rattle.stub_response.specs.Headers.{with_header}

short : (n : ℕ) → ¬ (65535 < n) → nat_le n 65535 ≡ true
short n not_long = by (leb_tells n 65535)
  where
    by : ((nat_le n 65535 ≡ true) × (n ≤ 65535)) ⊎ ((nat_le n 65535 ≡ false) × (65535 < n))
        → nat_le n 65535 ≡ true
    by (inl e) = e.0
    by (inr e) = absurd (not_long e.1)

plain : (value : List ℕ) → ¬ ¬ (IsFieldValue value) → list_all is_value_byte value ≡ true
plain value so = by (list_all is_value_byte value) refl
  where
    by : (t : Bool) → list_all is_value_byte value ≡ t → list_all is_value_byte value ≡ true
    by true e = e
    by false e = absurd (so (λ is. false≢true (sym e ∙ list_all-from_AllPass is_value_byte value is)))

pub held : (headers : Entries FieldValue) (header : ReplyHeader)
    → ¬ ¬ (IsFieldName header.name) → ¬ ¬ (IsFieldValue header.value)
    → with_header headers header ≡ append headers (lowercase header.name) (plain_value header.value)
held headers header name value =
    rw (short (length header.name) (λ long. name (λ is. omega (arith, is.1, long))), plain header.value value) refl
