-- What one more header adds to a key.
use Rattle.std.proofs.Common.{◌≡◌, ℕ, ◌+◌, ◌<◌, true, false, List, [], ◌∷◌}
use Rattle.std.proofs.Common.{◌++◌, Bor, Some, length, take, append_assoc, append-nil, refl, ap, ◌∙◌}
use Rattle.std.specs.List.{slice_get}
use Rattle.std.specs.Str.{str_eq_ignore_ascii_case}
use Rattle.std.proofs.lemmas.List.{map-append}
use Rattle.std.proofs.lemmas.List.Elements.{filter-append}
use Rattle.mock_request.specs.Request.{Header}
use Rattle.mock_request.proofs.HeaderLemmas.{more_taken}
use Rattle.recorder.specs.Key.{headers_named, fields_of}

module _ (name : List ℕ) (headers : List Header) (i : ℕ) (header : Header) (within : i < length headers)
    (here : Some header ≡ slice_get headers i) where
  appended : headers_named name (take (i + 1) headers)
      ≡ headers_named name (take i headers) ++ headers_named name (header ∷ [])
  appended =
      ap (headers_named name) (more_taken headers i header within here)
      ∙ filter-append (λ h. str_eq_ignore_ascii_case name h.name) (take i headers) (header ∷ [])

  pub one_more : str_eq_ignore_ascii_case name header.name ≡ true
      → headers_named name (take (i + 1) headers) ≡ headers_named name (take i headers) ++ header ∷ []
  one_more named = appended ∙ ap (λ t. headers_named name (take i headers) ++ t) (rw named refl)

  pub none_more : str_eq_ignore_ascii_case name header.name ≡ false
      → headers_named name (take (i + 1) headers) ≡ headers_named name (take i headers)
  none_more other =
      appended ∙ ap (λ t. headers_named name (take i headers) ++ t) (rw other refl)
      ∙ append-nil (headers_named name (take i headers))

-- a field that was pushed
pub field_pushed
    : (old fields more : List (Bor (List ℕ) × Bor (List ℕ)))
    (field : Bor (List ℕ) × Bor (List ℕ)) (taken : List Header)
    → more ≡ fields ++ field ∷ [] → fields_of fields ≡ fields_of old ++ taken
    → fields_of more ≡ fields_of old ++ (taken ++ record { name = field.0.now; value = field.1.now } ∷ [])
field_pushed old fields more field taken pushed before =
    let header : Header = record { name = field.0.now; value = field.1.now } in
    ap fields_of pushed
    ∙ map-append (λ f. record { name = f.0.now; value = f.1.now }) fields (field ∷ [])
    ∙ ap (λ t. t ++ header ∷ []) before
    ∙ append_assoc (fields_of old) taken (header ∷ [])
