-- What one more header adds to a map, and what a sort by name leaves.
use Rattle.std.proofs.Common.{◌≡◌, ℕ, ◌+◌, ◌<◌, List, [], ◌∷◌, ◌++◌, Bor, Some, take, length, map, Bool, append_assoc}
use Rattle.std.proofs.Common.{append-nil, refl, sym, ap, ◌∙◌, inl, inr, All, IsPermutation, subst, if◌then◌else◌}
use Rattle.std.specs.Cmp.{IsStrictWeakOrder}
use Rattle.std.specs.Cmp.Lexicographic.{slice_cmp}
use Rattle.std.specs.Fn.{Called, ComparesAs}
use Rattle.std.specs.List.{slice_get}
use Rattle.std.specs.List.Sorted.{IsSortedBy, IsSortedByKey, IsStableBy, IsStableByKey}
use Rattle.std.specs.Ordering.{is_lt, nat_cmp}
use Rattle.std.specs.declared.cmp.Ordering.{Ordering}
use Rattle.std.specs.Prelude.{not}
use Rattle.std.proofs.lemmas.Bool.{cases_Bool, cond-true, cond-false}
use Rattle.std.proofs.lemmas.Cmp.{nat_list_cmp_total}
use Rattle.std.proofs.lemmas.Fn.{always_returns_same}
use Rattle.std.proofs.lemmas.List.{map-append}
use Rattle.std.proofs.lemmas.List.Elements.{filter-append}
use Rattle.std.proofs.lemmas.List.Sorted.{All-permutation}
use Rattle.std.proofs.lemmas.List.MinMax.{ranks_by}
use Rattle.std.proofs.lemmas.List.Sums.{fold-append}
use denote.Param.Members.{Mut}
use Rattle.http_header.specs.FieldValue.{FieldValue, plain_value}
use Rattle.http_header.specs.HeaderMap.{Entries, append, append_all}
use Rattle.mapping_model.specs.declared.reply.ReplyHeader.{ReplyHeader}
use Rattle.mock_request.specs.Request.{Header}
use Rattle.mock_request.proofs.HeaderLemmas.{more_taken}
use Rattle.recorder.specs.Forwarding.{IsField, IsRelayed, field_of, is_left_out_of_request, map_of}
use Rattle.recorder.specs.Forwarding.{passed_back, passed_on}

-- ---- a map of headers

pub map_of_more : (front : List Header) (header : Header)
    → map_of (front ++ header ∷ []) ≡ append (map_of front) header.name (plain_value header.value)
map_of_more front header =
    ap (append_all []) (map-append field_of front (header ∷ []))
    ∙ fold-append (λ n item. append n item.0 item.1) [] (map field_of front) (field_of header ∷ [])

-- a map that had the headers before this one has it after the next step of the loop
pub map_with_next
    : (message front headers : List Header) (i : ℕ) (header : Header) → i < length headers
    → Some header ≡ slice_get headers i
    → (old new : Entries FieldValue) → old ≡ map_of (front ++ passed_on message (take i headers))
    → new ≡ (if is_left_out_of_request message header.name then old
    else append old header.name (plain_value header.value))
    → new ≡ map_of (front ++ passed_on message (take (i + 1) headers))
map_with_next message front headers i header within here old new before step =
    let earlier = passed_on message (take i headers) in
    let left_out = is_left_out_of_request message header.name in
    let taken : passed_on message (take (i + 1) headers) ≡ earlier ++ passed_on message (header ∷ []) =
    ap (passed_on message) (more_taken headers i header within here)
    ∙ filter-append (λ (h : Header). not (is_left_out_of_request message h.name)) (take i headers) (header ∷ []) in
    elim (cases_Bool left_out) [
      | inl left ↦
          step ∙ cond-true left_out _ _ left ∙ before
          ∙ ap (λ t. map_of (front ++ t)) (sym (taken ∙ ap (λ t. earlier ++ t) (rw left refl) ∙ append-nil earlier))
      | inr other ↦
          step ∙ cond-false left_out _ _ other
          ∙ ap (λ m. append m header.name (plain_value header.value)) before
          ∙ sym (map_of_more (front ++ earlier) header)
          ∙ ap map_of (append_assoc front earlier (header ∷ [])
          ∙ ap (λ t. front ++ t) (sym (taken ∙ ap (λ t. earlier ++ t) (rw other refl))))
    ]

-- ---- the order of names

abbrev is_before : ReplyHeader → ReplyHeader → Bool
is_before a b = is_lt (slice_cmp nat_cmp a.name b.name)

is_weak : IsStrictWeakOrder is_before
is_weak = ranks_by nat_list_cmp_total (λ (header : ReplyHeader). header.name)

module _ {F : Type 0} {g : Mut F (Bor ReplyHeader × (Bor ReplyHeader × Unit {0})) Ordering} {f : F}
    (calls : (a : Bor ReplyHeader × (Bor ReplyHeader × Unit {0})) (r : Ordering) (f' : F) → Called g f a r f'
    → (r ≡ slice_cmp nat_cmp a.0.now.name a.1.0.now.name) × (f' ≡ f)) where
  compares : ComparesAs g is_before f
  compares =
      always_returns_same g (λ a r. is_lt r ≡ is_before a.0.now a.1.0.now) f
      (λ a r f' call. (ap is_lt (calls a r f' call).0, (calls a r f' call).1))

  pub sorted_by_name : (xs : List ReplyHeader)
      → ((lt : ReplyHeader → ReplyHeader → Bool) → IsStrictWeakOrder lt → ComparesAs g lt f
      → IsSortedBy lt xs)
      → IsSortedByKey (λ (header : ReplyHeader). header.name) (slice_cmp nat_cmp) xs
  sorted_by_name xs sorted = sorted is_before is_weak compares

  pub stable_by_name : (xs ys : List ReplyHeader)
      → ((lt : ReplyHeader → ReplyHeader → Bool) → IsStrictWeakOrder lt → ComparesAs g lt f
      → IsStableBy lt xs ys)
      → IsStableByKey (λ (header : ReplyHeader). header.name) (slice_cmp nat_cmp) xs ys
  stable_by_name xs ys stable = stable is_before is_weak compares

-- ---- a reply

pub relayed_by : (received : List Header) (unsorted sorted : List ReplyHeader) → unsorted ≡ passed_back received received
    → All IsField unsorted → IsPermutation unsorted sorted
    → IsSortedByKey (λ (header : ReplyHeader). header.name) (slice_cmp nat_cmp) sorted
    → IsStableByKey (λ (header : ReplyHeader). header.name) (slice_cmp nat_cmp) unsorted sorted
    → IsRelayed received sorted
relayed_by received unsorted sorted is fields same in_order stable = record {
  same = subst (λ xs. IsPermutation xs sorted) is same;
  in_order = in_order;
  stable =
      subst (λ xs. IsStableByKey (λ (header : ReplyHeader). header.name) (slice_cmp nat_cmp) xs sorted) is stable;
  fields = All-permutation IsField unsorted sorted same fields;
}
