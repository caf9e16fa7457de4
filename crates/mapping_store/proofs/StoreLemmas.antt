-- What the store's calls do to its entries, as contracts see it.
use Rattle.std.proofs.Common.{◌≡◌, ◌≢◌, ℕ, zero, suc, ◌<◌, not, List, [], ◌∷◌}
use Rattle.std.proofs.Common.{◌++◌, length, map, get_or, Any, true, refl, sym, ap, subst, ◌∙◌, arith}
use Rattle.std.proofs.Common.{append-nil, Contains, ◌↔◌, Option, Some, None, is_some, IsTrue, MatchOption}
use Rattle.std.specs.List.{All, AllPairs, IsDistinct, filter}
use Rattle.std.proofs.lemmas.Bool.{false≢true}
use Rattle.std.proofs.lemmas.List.Kept.{AllPairs-filter}
use Rattle.std.specs.List.Sorted.{IsPermutation}
use Rattle.std.specs.Str.{bytes_eq}
use Rattle.std.proofs.lemmas.List.{length-map, get_or-map}
use Rattle.std.proofs.lemmas.List.Elements.{All-nil, All-filter, All-map}
use Rattle.std.proofs.lemmas.List.Sorted.{IsPermutation-refl, IsPermutation-sym, IsPermutation-trans}
use Rattle.std.proofs.lemmas.List.Sorted.{IsPermutation-to_front, IsPermutation-map, Contains-permutation}
use Rattle.request_journal.specs.Live.{left_by}
use Rattle.request_journal.specs.Past.{Placed, placed_from}
use Rattle.request_journal.specs.declared.event.Event.TheVariants as event
use Rattle.request_journal.specs.declared.mapping.Mapping.{Mapping}
use Rattle.mapping_store.specs.declared.entry.Entry.{Entry}
use Rattle.mapping_store.specs.Kept.{Adds, AreKept, Fits, IsBefore, placed_of, without}
use Rattle.mapping_store.proofs.SeveralLemmas.{others, at, replaced, fit_replaced}
use Rattle.mapping_store.proofs.IdLemmas.{distinct_replaced, distinct_without, filter-map, filter_none, ids_without}
use Rattle.mapping_store.proofs.IdLemmas.{without_none}
use Rattle.mapping_store.proofs.EventLemmas.{left_plain, left_others, left_edited, left_alike}

-- ---- entries and live mappings

pub element : (xs : List Entry) (i : ℕ) → i < length xs → (e : Entry) × (e ≡ get_or xs i e)
element [] i l = absurd (omega arith)
element (x ∷ xs) zero l = (x, refl)
element (x ∷ xs) (suc i) l = element xs i (omega arith)

-- a live mapping with the property is that of an entry
pub any_at : (P : Placed → Type 0) (xs : List Entry) (i : ℕ) (e : Entry) → i < length xs → e ≡ get_or xs i e
    → P (placed_of e) → Any P (map placed_of xs)
any_at P xs i e l read p = (
  i,
  placed_of e,
  subst (λ n. i < n) (sym (length-map xs placed_of)) l,
  get_or-map placed_of xs i e (placed_of e) l ∙ ap placed_of (sym read),
  p,
)

-- the id at an index is that of a live mapping
pub any_with_id : (id : List ℕ) (xs : List Entry) (i : ℕ) → i < length xs
    → ((d : Entry) → (get_or xs i d).id ≡ id) → Any (λ p. p.mapping.id ≡ id) (map placed_of xs)
any_with_id id xs i l is =
    let found = element xs i l in
    any_at (λ (p : Placed). p.mapping.id ≡ id) xs i found.0 l found.1
    (ap (λ (e : Entry). e.id) found.1 ∙ is found.0)

pub any_taken : (id : List ℕ) (e : Entry) (old rest : List Entry) → e.id ≡ id → IsPermutation old (e ∷ rest)
    → Any (λ p. p.mapping.id ≡ id) (map placed_of old)
any_taken id e old rest is perm =
    let in_old : Contains old e =
    Contains-permutation (e ∷ rest) old e (IsPermutation-sym old (e ∷ rest) perm) (zero, omega arith, refl) in
    any_at (λ (p : Placed). p.mapping.id ≡ id) old in_old.0 e in_old.1 (sym in_old.2) is

-- the entry of a live mapping
pub entry_of : (xs : List Entry) (k : ℕ) (p : Placed) → k < length (map placed_of xs)
    → get_or (map placed_of xs) k p ≡ p
    → (e : Entry) × (k < length xs) × (e ≡ get_or xs k e) × (placed_of e ≡ p)
entry_of xs k p l read =
    let within : k < length xs = subst (λ n. k < n) (length-map xs placed_of) l in
    let found = element xs k within in (
      found.0,
      within,
      found.1,
      ap placed_of found.1 ∙ sym (get_or-map placed_of xs k found.0 p within) ∙ read,
    )

pub none_with_id : (id : List ℕ) (xs : List Entry) → All (λ e. e.id ≢ id) xs
    → Any (λ p. p.mapping.id ≡ id) (map placed_of xs) → ⊥
none_with_id id xs all any =
    let found = entry_of xs any.0 any.1 any.2 any.3 in
    all any.0 found.0 found.1
    (ap (λ (e : Entry). e.id) (sym found.2) ∙ ap (λ (p : Placed). p.mapping.id) found.3 ∙ any.4)

-- ---- the events

same_members : (xs ys : List Placed) → xs ≡ ys → IsPermutation xs ys
same_members xs ys h = subst (λ l. IsPermutation xs l) h (IsPermutation-refl xs)

pub after_add : (number : ℕ) (m : Mapping) (e : Entry) (old new : List Entry) → placed_of e ≡ at number 0 m
    → IsPermutation (e ∷ without e.id old) new
    → IsPermutation (left_by (event.Add m ∷ []) (map placed_of old) ++ at number 0 m ∷ []) (map placed_of new)
after_add number m e old new is put =
    let live : List Placed = map placed_of old in
    subst (λ l. IsPermutation (l ++ at number 0 m ∷ []) (map placed_of new))
    (sym (left_plain (event.Add m) (λ p. refl) live))
    (IsPermutation-trans _ _ _ (IsPermutation-to_front (others m.id live) (at number 0 m))
    (subst (λ (p : Placed). IsPermutation (p ∷ others p.mapping.id live) (map placed_of new)) is
    (replaced e old new put)))

pub after_add_all : (number skipped : ℕ) (ms : List Mapping) (old new : List Placed) → Adds number old ms new
    → IsPermutation (left_by (event.StopRecording ms skipped ∷ []) old ++ placed_from number 0 ms) new
after_add_all number skipped ms old new added =
    subst (λ l. IsPermutation (l ++ placed_from number 0 ms) new)
    (sym (left_plain (event.StopRecording ms skipped) (λ p. refl) old)) added

pub after_delete : (id : List ℕ) (old new : List Entry) → new ≡ without id old
    → IsPermutation (left_by (event.Delete id ∷ []) (map placed_of old) ++ []) (map placed_of new)
after_delete id old new is =
    same_members _ _
    (append-nil (left_by (event.Delete id ∷ []) (map placed_of old))
    ∙ left_plain (event.Delete id) (λ p. refl) (map placed_of old)
    ∙ filter-map (λ (p : Placed). not (bytes_eq id p.mapping.id)) placed_of old
    ∙ ap (map placed_of) (sym is))

nothing_left : (old : List Placed) → filter (λ p. not true) old ≡ []
nothing_left old = filter_none (λ (p : Placed). not true) old (λ p. refl)

pub after_clear : (old : List Placed) → IsPermutation (left_by (event.DeleteAll ∷ []) old ++ []) []
after_clear old =
    same_members _ _
    (append-nil (left_by (event.DeleteAll ∷ []) old) ∙ left_plain event.DeleteAll (λ p. refl) old
    ∙ nothing_left old)

pub after_reset : (number : ℕ) (defaults : List Mapping) (old new : List Placed)
    → IsPermutation (placed_from number 0 defaults) new
    → IsPermutation (left_by (event.ResetMappings ∷ []) old ++ placed_from number 0 defaults) new
after_reset number defaults old new added =
    subst (λ l. IsPermutation (l ++ placed_from number 0 defaults) new)
    (sym (left_plain event.ResetMappings (λ p. refl) old ∙ nothing_left old)) added

-- ids that differ among entries differ among live mappings
other_ids : (id : List ℕ) (xs : List Entry) → All (λ e. e.id ≢ id) xs
    → All (λ p. p.mapping.id ≢ id) (map placed_of xs)
other_ids id xs all = All-map (λ (p : Placed). p.mapping.id ≢ id) placed_of xs all

pub after_edit : (m : Mapping) (was e : Entry) (old rest new : List Entry) → was.id ≡ m.id
    → IsPermutation old (was ∷ rest) → rest ≡ without m.id old → placed_of e ≡ at was.event was.index m
    → IsPermutation (e ∷ rest) new
    → IsPermutation (left_by (event.Edit m.id m.spec ∷ []) (map placed_of old) ++ []) (map placed_of new)
after_edit m was e old rest new is taken left placed put =
    let edit : List Placed → List Placed = left_by (event.Edit m.id m.spec ∷ []) in
    let ids : All (λ x. x.id ≢ m.id) rest =
    subst (λ (l : List Entry). All (λ x. x.id ≢ m.id) l) (sym left) (ids_without m.id old) in
    let first : edit (map placed_of (was ∷ rest)) ≡ map placed_of (e ∷ rest) =
    left_edited m.id m.spec (placed_of was) (map placed_of rest) is (other_ids m.id rest ids)
    ∙ ap (λ p. p ∷ map placed_of rest) (sym placed) in
    subst (λ l. IsPermutation l (map placed_of new)) (sym (append-nil (edit (map placed_of old))))
    (IsPermutation-trans _ _ _
    (left_alike (event.Edit m.id m.spec ∷ []) (map placed_of old) (map placed_of (was ∷ rest))
    (IsPermutation-map placed_of old (was ∷ rest) taken))
    (subst (λ l. IsPermutation l (map placed_of new)) (sym first) (IsPermutation-map placed_of (e ∷ rest) new put)))

pub after_no_edit : (m : Mapping) (old new : List Entry) → All (λ e. e.id ≢ m.id) old → new ≡ without m.id old
    → IsPermutation (left_by (event.Edit m.id m.spec ∷ []) (map placed_of old) ++ []) (map placed_of new)
after_no_edit m old new all is =
    same_members _ _
    (append-nil (left_by (event.Edit m.id m.spec ∷ []) (map placed_of old))
    ∙ left_others m.id m.spec (map placed_of old) (other_ids m.id old all)
    ∙ ap (map placed_of) (without_none m.id old all ∙ sym is))

-- ---- what a look-up answers

pub found_taken : (id : List ℕ) (old rest : List Entry) (r : Option Entry)
    → MatchOption r (All (λ e. e.id ≢ id) old) (λ e. (e.id ≡ id) × IsPermutation old (e ∷ rest))
    → IsTrue (is_some r) ↔ Any (λ p. p.mapping.id ≡ id) (map placed_of old)
found_taken id old rest None all = (λ t. absurd (false≢true t), λ any. absurd (none_with_id id old all any))
found_taken id old rest (Some e) h = (λ t. any_taken id e old rest h.0 h.1, λ any. refl)

pub found_index : (id : List ℕ) (xs : List Entry) (r : Option ℕ)
    → MatchOption r (All (λ e. e.id ≢ id) xs)
    (λ i. (i < length xs) × ((d : Entry) → (get_or xs i d).id ≡ id))
    → IsTrue (is_some r) ↔ Any (λ p. p.mapping.id ≡ id) (map placed_of xs)
found_index id xs None all = (λ t. absurd (false≢true t), λ any. absurd (none_with_id id xs all any))
found_index id xs (Some i) h = (λ t. any_with_id id xs i h.0 h.1, λ any. refl)

-- ---- what is kept

pub kept_without : (defaults : List Mapping) (id : List ℕ) (xs : List Entry) → AreKept defaults xs
    → AreKept defaults (without id xs)
kept_without defaults id xs kept = record {
  fit = All-filter (λ (e : Entry). not (bytes_eq id e.id)) (Fits defaults) xs kept.fit;
  ids = distinct_without id xs kept.ids;
  in_order = AllPairs-filter IsBefore (λ (e : Entry). not (bytes_eq id e.id)) xs kept.in_order;
}

pub kept_nothing : (defaults : List Mapping) (xs : List Entry) → xs ≡ [] → AreKept defaults xs
unfolding IsDistinct
kept_nothing defaults xs is = subst (AreKept defaults) (sym is) (record {
  fit = All-nil (Fits defaults);
  ids = tt;
  in_order = λ i j d l within. absurd (omega (arith, within));
})

-- an entry in place of the one with its id
pub kept_replaced : (defaults : List Mapping) (e : Entry) (old new : List Entry) → AreKept defaults old
    → Fits defaults e → IsPermutation (e ∷ without e.id old) new → AllPairs IsBefore new
    → AreKept defaults new
kept_replaced defaults e old new kept fits put in_order = record {
  fit = fit_replaced defaults e old new put fits kept.fit;
  ids = distinct_replaced e old new put kept.ids;
  in_order = in_order;
}

-- the same where that one was taken out first
pub kept_put : (defaults : List Mapping) (id : List ℕ) (e : Entry) (old rest new : List Entry)
    → AreKept defaults old
    → rest ≡ without id old → id ≡ e.id → Fits defaults e → IsPermutation (e ∷ rest) new
    → AllPairs IsBefore new → AreKept defaults new
kept_put defaults id e old rest new kept left same fits put in_order =
    kept_replaced defaults e old new kept fits
    (subst (λ i. IsPermutation (e ∷ without i old) new) same
    (subst (λ l. IsPermutation (e ∷ l) new) left put)) in_order

-- no live mapping has a property that no entry's has
pub none_among : (P : Placed → Type 0) (xs : List Entry) → All (λ e. ¬ (P (placed_of e))) xs
    → Any P (map placed_of xs) → ⊥
none_among P xs all any =
    let found = entry_of xs any.0 any.1 any.2 any.3 in
    all any.0 found.0 found.1 (subst (λ e. P (placed_of e)) found.2 (subst P (sym found.3) any.4))
