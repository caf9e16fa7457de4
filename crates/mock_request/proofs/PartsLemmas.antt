-- Where the names and the values of headers are in a block.
use Rattle.std.proofs.Common.{◌≡◌, ℕ, zero, suc, ◌+◌, ◌*◌, ◌<◌, refl, sym, ap, subst, ◌∙◌}
use Rattle.std.proofs.Common.{arith, List, [], ◌∷◌, ◌++◌, length, get_or, take, All}
use Rattle.std.specs.Prelude.{slice_get, Some, IsUtf8}
use Rattle.std.proofs.lemmas.List.{map-append, take_more, append_assoc}
use Rattle.http_header.specs.FieldValue.{FieldValue}
use Rattle.http_header.specs.FieldName.{IsHeaderName}
use Rattle.http_header.proofs.TokenLemmas.{IsUtf8-from_token}
use Rattle.mock_request.specs.Request.{Header, header_of, headers_of}
use Rattle.mock_request.specs.Inner.Parts.{fields_of, headers_in, AreFields}

pub length-fields : (headers : List Header) → length (fields_of headers) ≡ 2 * length headers
length-fields [] = refl
length-fields (header ∷ headers) = omega (arith, length-fields headers)

pub headers_in-fields : (headers : List Header) → headers_in (fields_of headers) ≡ headers
headers_in-fields [] = refl
headers_in-fields (header ∷ headers) = ap (λ hs. header ∷ hs) (headers_in-fields headers)

pub fields_of-append : (before after : List Header)
    → fields_of (before ++ after) ≡ fields_of before ++ fields_of after
fields_of-append [] after = refl
fields_of-append (header ∷ before) after =
    ap (λ fields. header.name ∷ header.value ∷ fields) (fields_of-append before after)

-- one more header
pub more_headers : (headers : List (List ℕ × FieldValue)) (i : ℕ) (field : List ℕ × FieldValue)
    → i < length headers → field ≡ get_or headers i field
    → headers_of (take (i + 1) headers) ≡ headers_of (take i headers) ++ header_of field ∷ []
more_headers headers i field within is =
    ap headers_of (take_more headers i field within ∙ ap (λ h. take i headers ++ h ∷ []) (sym is))
    ∙ map-append header_of (take i headers) (field ∷ [])

pub more_fields : (old parts named whole : List (List ℕ)) (before : List Header)
    (header : Header) (name value : List ℕ)
    → parts ≡ old ++ fields_of before → named ≡ parts ++ name ∷ [] → whole ≡ named ++ value ∷ []
    → name ≡ header.name → value ≡ header.value → whole ≡ old ++ fields_of (before ++ header ∷ [])
more_fields old parts named whole before header name value p n w is_name is_value =
    rw (w, n, p, is_name, is_value, fields_of-append before (header ∷ [])) (simp append_assoc)

-- one header fewer is left to append
pub moved_fields : (total parts named whole : List (List ℕ)) (left rest : List Header)
    (header : Header) (name value : List ℕ)
    → parts ++ fields_of left ≡ total → left ≡ header ∷ rest → named ≡ parts ++ name ∷ []
    → whole ≡ named ++ value ∷ []
    → name ≡ header.name → value ≡ header.value → whole ++ fields_of rest ≡ total
moved_fields total parts named whole left rest header name value p l n w is_name is_value =
    rw (w, n, is_name, is_value, sym p, l) (simp append_assoc)

-- the byte strings of headers
pub are_fields : (headers : List Header) → All (λ header. IsHeaderName header.name) headers
    → AreFields (fields_of headers)
are_fields headers names = record {
  whole = ap fields_of (sym (headers_in-fields headers));
  names = rw (headers_in-fields headers) names;
}

-- the two parts of the header at an index
pub record At (headers : List Header) (index at : ℕ) (fields : List (List ℕ)) : Type 0 where
  pub within : suc at < length fields
  pub found : slice_get headers index
      ≡ Some (record { name = get_or fields at []; value = get_or fields (suc at) [] })
  pub name : IsHeaderName (get_or fields at [])
  pub text : IsUtf8 (get_or fields at [])

pub field_at : (headers : List Header) (index at : ℕ) → at ≡ 2 * index → index < length headers
    → All (λ header. IsHeaderName header.name) headers → At headers index at (fields_of headers)
field_at [] index at e i names = absurd (omega arith)
field_at (header ∷ headers) zero zero e i names =
    let name : IsHeaderName header.name = names 0 header (omega arith) in
    record { within = omega arith; found = refl; name = name; text = IsUtf8-from_token header.name name.0.0 }
field_at (header ∷ headers) zero (suc at) e i names = absurd (omega arith)
field_at (header ∷ headers) (suc index) zero e i names = absurd (omega arith)
field_at (header ∷ headers) (suc index) (suc zero) e i names = absurd (omega arith)
field_at (header ∷ headers) (suc index) (suc (suc at)) e i names =
    let f = field_at headers index at (omega arith) (omega arith) (λ k d l. names (suc k) d (omega arith)) in
    record { within = omega (arith, f.within); found = f.found; name = f.name; text = f.text }

pub field_count : (fields : List (List ℕ)) → AreFields fields → length fields ≡ 2 * length (headers_in fields)
field_count fields are = omega (arith, ap length are.whole, length-fields (headers_in fields))

pub header_at : (fields : List (List ℕ)) (index : ℕ) → AreFields fields → index < length (headers_in fields)
    → At (headers_in fields) index (2 * index) fields
header_at fields index are i =
    subst (λ fs. At (headers_in fields) index (2 * index) fs) (sym are.whole)
    (field_at (headers_in fields) index (2 * index) refl i are.names)

-- equal headers have equal byte strings
pub same_fields : (a b : List (List ℕ)) → AreFields a → AreFields b → headers_in a ≡ headers_in b → a ≡ b
same_fields a b in_a in_b e = in_a.whole ∙ ap fields_of e ∙ sym in_b.whole
