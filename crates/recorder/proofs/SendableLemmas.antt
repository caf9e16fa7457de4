-- Why headers can't be sent: a value that no header may have, or too many of them.
use Rattle.std.proofs.Common.{◌≡◌, ℕ, ◌+◌, ◌<◌, ◌≤◌, ◌⊎◌, List, [], ◌∷◌, ◌++◌, Some, take, drop, length, map, Bool}
use Rattle.std.proofs.Common.{false, All, append_assoc, refl, sym, ap, ◌∙◌, inl, inr, arith}
use Rattle.std.specs.List.{slice_get}
use Rattle.std.specs.Prelude.{bytes_eq, not}
use Rattle.std.proofs.lemmas.Bool.{cases_Bool, cond-true, cond-false}
use Rattle.std.proofs.lemmas.List.{take-append-drop}
use Rattle.std.proofs.lemmas.List.Elements.{All-head, All-tail, filter-append}
use Rattle.std.proofs.lemmas.List.Sums.{sum_by-cons}
use Rattle.std.proofs.Math.ListN.{length-append, length-map}
use Rattle.http_header.specs.FieldValue.{FieldValue, IsFieldValue}
use Rattle.http_header.specs.HeaderMap.{Entries, Entry, RefusesAppend, append, append_all, update, value_count}
use Rattle.mock_request.specs.Request.{Header}
use Rattle.mock_request.proofs.HeaderLemmas.{more_taken}
use Rattle.recorder.specs.Forwarding.{AreSendable, field_of, is_left_out_of_request, map_of, most_names, passed_on}

-- ---- how many names and values a map has

names_of_update : (m : Entries FieldValue) (name : List ℕ) (f : List FieldValue → List FieldValue)
    → length (update m name f) ≤ length m + 1
names_of_update [] name f = omega arith
names_of_update (e ∷ m) name f = elim (cases_Bool (bytes_eq e.0 name)) [
  | inl hit ↦ rw hit (omega arith)
  | inr miss ↦ let more = names_of_update m name f in rw miss (omega (arith, more))
]

values_of_append : (m : Entries FieldValue) (name : List ℕ) (value : FieldValue)
    → value_count (append m name value) ≡ value_count m + 1
values_of_append [] name value = refl
values_of_append (e ∷ m) name value =
    let size : Entry FieldValue → ℕ = λ x. length x.1 in
    let before : value_count (e ∷ m) ≡ length e.1 + value_count m = sum_by-cons size e m in
    elim (cases_Bool (bytes_eq e.0 name)) [
      | inl hit ↦
          let longer = length-append e.1 (value ∷ []) in
          ap value_count (cond-true (bytes_eq e.0 name) _ _ hit)
          ∙ sum_by-cons size (e.0, e.1 ++ value ∷ []) m ∙ omega (arith, before, longer)
      | inr miss ↦
          let more = values_of_append m name value in
          ap value_count (cond-false (bytes_eq e.0 name) _ _ miss)
          ∙ sum_by-cons size e (append m name value) ∙ omega (arith, before, more)
    ]

sizes : (items : List (List ℕ × FieldValue)) (m : Entries FieldValue)
    → (length (append_all m items) ≤ length m + length items)
    × (value_count (append_all m items) ≡ value_count m + length items)
sizes [] m = (omega arith, omega arith)
sizes (item ∷ items) m =
    let rest = sizes items (append m item.0 item.1) in
    let names = names_of_update m item.0 (λ values. values ++ item.1 ∷ []) in
    let values = values_of_append m item.0 item.1 in
    (omega (arith, rest.0, names), omega (arith, rest.1, values))

-- a map that refuses one more has as many headers
pub full_map : (front : List Header) (name : List ℕ) → RefusesAppend (map_of front) name
    → most_names ≤ length front
full_map front name refuses =
    let size = sizes (map field_of front) [] in
    let same : length (map field_of front) ≡ length front = simp length-map in
    elim refuses [
      | inl values ↦ omega (arith, values, size.1, same)
      | inr new ↦ elim new.1 [
        | inl names ↦ omega (arith, names, size.0, same)
        | inr values ↦ omega (arith, values, size.1, same)
      ]
    ]

-- ---- headers that can't be sent

back : (P : Header → Type 0) (xs ys : List Header) → All P (xs ++ ys) → All P ys
back P [] ys all = all
back P (x ∷ xs) ys all = back P xs ys (All-tail P x (xs ++ ys) all)

-- the header is one of them, and its value can't be sent or there are too many
pub not_sendable : (front rest : List Header) (header : Header)
    → ¬ (IsFieldValue header.value) ⊎ RefusesAppend (map_of front) header.name
    → ¬ (AreSendable (front ++ header ∷ rest))
not_sendable front rest header (inl bad) sendable =
    bad (All-head (λ h. IsFieldValue h.value) header rest
    (back (λ h. IsFieldValue h.value) front (header ∷ rest) sendable.values))
not_sendable front rest header (inr refuses) sendable =
    let full = full_map front header.name refuses in
    let few = sendable.few in
    let longer = length-append front (header ∷ rest) in
    absurd (omega (arith, full, few, longer))

-- the header at an index is passed on, after those before it
pub passed_on_at : (message headers : List Header) (i : ℕ) (header : Header) → i < length headers
    → Some header ≡ slice_get headers i → is_left_out_of_request message header.name ≡ false
    → passed_on message headers
    ≡ passed_on message (take i headers) ++ header ∷ passed_on message (drop (i + 1) headers)
passed_on_at message headers i header within here other =
    let test : Header → Bool = λ h. not (is_left_out_of_request message h.name) in
    let before = passed_on message (take i headers) in
    let after = passed_on message (drop (i + 1) headers) in
    ap (passed_on message) (sym (take-append-drop (i + 1) headers)
    ∙ ap (λ t. t ++ drop (i + 1) headers) (more_taken headers i header within here))
    ∙ filter-append test (take i headers ++ header ∷ []) (drop (i + 1) headers)
    ∙ ap (λ t. t ++ after) (filter-append test (take i headers) (header ∷ []) ∙ ap (λ t. before ++ t) (rw other refl))
    ∙ append_assoc before (header ∷ []) after
