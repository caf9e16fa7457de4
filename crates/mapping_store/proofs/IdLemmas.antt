-- What is left of a list without an id.
use Rattle.std.proofs.Common.{◌≡◌, ◌≢◌, ℕ, zero, suc, ◌<◌, ◌≤◌, Bool, true, false, not, cond}
use Rattle.std.proofs.Common.{List, [], ◌∷◌, map, length, get_or, refl, sym, ap, ◌∙◌, arith, inl, inr}
use Rattle.std.specs.List.{All, AllByRecursion, AllPairs, IsDistinct, filter, remove}
use Rattle.std.specs.List.Sorted.{IsPermutation}
use Rattle.std.specs.Str.{bytes_eq}
use Rattle.std.proofs.lemmas.Bool.{false≢true, false_from_ne_true, both_ways, not-true, or_parts, cases_order}
use Rattle.std.proofs.lemmas.List.Elements.{All-nil, All-cons, All-head, All-tail, All-filter, filter_passes}
use Rattle.std.proofs.lemmas.List.Filters.{length-filter_both}
use Rattle.std.proofs.lemmas.List.Kept.{AllPairs-cons}
use Rattle.std.proofs.lemmas.Map.Keys.{IsDistinct-IsPermutation}
use Rattle.std.proofs.lemmas.Slice.Eq.{bytes_eq-Decides}
use Rattle.request_journal.proofs.IdLemmas.{IdsDiffer, is_held}
use Rattle.mapping_store.specs.declared.entry.Entry.{Entry}
use Rattle.mapping_store.specs.Kept.{have_one_id, placed_of, without}

pub same_id : (a b : List ℕ) → a ≡ b → bytes_eq a b ≡ true
same_id a b h = (bytes_eq-Decides a b).1 h

pub other_id : (a b : List ℕ) → b ≢ a → not (bytes_eq a b) ≡ true
other_id a b h = ap not (false_from_ne_true (bytes_eq a b) (λ e. h (sym ((bytes_eq-Decides a b).0 e))))

module _ {X : Type 0} (p : X → Bool) where
  pub filter_all : (xs : List X) → All (λ x. p x ≡ true) xs → filter p xs ≡ xs
  filter_all [] h = refl
  filter_all (x ∷ xs) h =
      (λ i. cond (All-head (λ y. p y ≡ true) x xs h i) (x ∷ filter p xs) (filter p xs))
      ∙ ap (λ l. x ∷ l) (filter_all xs (All-tail (λ y. p y ≡ true) x xs h))

  pub filter_none : (xs : List X) → ((x : X) → p x ≡ false) → filter p xs ≡ []
  filter_none [] h = refl
  filter_none (x ∷ xs) h = (λ i. cond (h x i) (x ∷ filter p xs) (filter p xs)) ∙ filter_none xs h

  -- the one element that fails the test is at the index
  pub remove_is_filter : (xs : List X) (i : ℕ) → i < length xs → ((d : X) → p (get_or xs i d) ≡ false)
      → ((k : ℕ) (d : X) → k < length xs → (k ≡ i → ⊥) → p (get_or xs k d) ≡ true)
      → remove xs i ≡ filter p xs
  remove_is_filter [] i l one others = absurd (omega arith)
  remove_is_filter (x ∷ xs) zero l one others =
      sym ((λ i. cond (one x i) (x ∷ filter p xs) (filter p xs))
      ∙ filter_all xs (λ k d lt. others (suc k) d (omega arith) (λ e. omega arith)))
  remove_is_filter (x ∷ xs) (suc i) l one others =
      ap (λ l. x ∷ l) (remove_is_filter xs i (omega arith) one
      (λ k d lt ne. others (suc k) d (omega arith) (λ e. ne (omega arith))))
      ∙ sym (λ i. cond (others zero x (omega arith) (λ e. omega arith) i) (x ∷ filter p xs) (filter p xs))

  pub filter-map : {Y : Type 0} (f : Y → X) (ys : List Y)
      → filter p (map f ys) ≡ map f (filter (λ y. p (f y)) ys)
  filter-map f [] = refl
  filter-map f (y ∷ ys) =
      elim (p (f y)) as (λ b. cond b (f y ∷ filter p (map f ys)) (filter p (map f ys))
      ≡ map f (cond b (y ∷ filter (λ z. p (f z)) ys) (filter (λ z. p (f z)) ys))) [
        | true ↦ ap (λ l. f y ∷ l) (filter-map f ys)
        | false ↦ filter-map f ys
      ]

  pub length-filter-le : (xs : List X) → length (filter p xs) ≤ length xs
  length-filter-le xs = omega (arith, length-filter_both p (λ x. not (p x)) (λ x. refl) xs)

-- no entry has the id
pub without_none : (id : List ℕ) (xs : List Entry) → All (λ e. e.id ≢ id) xs → xs ≡ without id xs
without_none id xs h =
    sym (filter_all (λ (e : Entry). not (bytes_eq id e.id)) xs (λ k d lt. other_id id (get_or xs k d).id (h k d lt)))

-- ---- entries of which no two have one id

all_of : (P : Entry → Type 0) (xs : List Entry) → AllByRecursion P xs → All P xs
all_of P [] h = All-nil P
all_of P (x ∷ xs) h = All-cons P x xs h.0 (all_of P xs h.1)

each_of : (P : Entry → Type 0) (xs : List Entry) → All P xs → AllByRecursion P xs
each_of P [] h = tt
each_of P (x ∷ xs) h = (All-head P x xs h, each_of P xs (All-tail P x xs h))

distinct_pairs : (xs : List Entry) → IsDistinct have_one_id xs → AllPairs (λ a b. have_one_id a b ≡ false) xs
unfolding IsDistinct
distinct_pairs [] h = λ i j d l within. absurd (omega arith)
distinct_pairs (x ∷ xs) h =
    AllPairs-cons (λ (a b : Entry). have_one_id a b ≡ false) x xs
    (all_of (λ (y : Entry). have_one_id x y ≡ false) xs h.0)
    (distinct_pairs xs h.1)

same_back : (a b : Entry) → have_one_id a b ≡ have_one_id b a
same_back a b =
    elim (bytes_eq a.id b.id) as (λ x. bytes_eq a.id b.id ≡ x → x ≡ bytes_eq b.id a.id) [
      | true ↦ λ h. sym (same_id b.id a.id (sym ((bytes_eq-Decides a.id b.id).0 h)))
      | false ↦ λ h. sym (false_from_ne_true (bytes_eq b.id a.id)
          (λ g. false≢true (sym h ∙ same_id a.id b.id (sym ((bytes_eq-Decides b.id a.id).0 g)))))
    ] refl

pub distinct_alike : (xs ys : List Entry) → IsPermutation xs ys → IsDistinct have_one_id xs
    → IsDistinct have_one_id ys
distinct_alike xs ys same h = IsDistinct-IsPermutation have_one_id same_back xs ys same h

each_kept : (P : Entry → Type 0) (p : Entry → Bool) (xs : List Entry) → AllByRecursion P xs
    → AllByRecursion P (filter p xs)
each_kept P p xs h = each_of P (filter p xs) (All-filter p P xs (all_of P xs h))

pub distinct_without : (id : List ℕ) (xs : List Entry) → IsDistinct have_one_id xs
    → IsDistinct have_one_id (without id xs)
unfolding IsDistinct
distinct_without id [] h = tt
distinct_without id (x ∷ xs) h =
    elim (bytes_eq id x.id)
    as (λ b. IsDistinct have_one_id (cond (not b) (x ∷ without id xs) (without id xs))) [
      | true ↦ distinct_without id xs h.1
      | false ↦ (
        each_kept (λ (y : Entry). have_one_id x y ≡ false) (λ (y : Entry). not (bytes_eq id y.id)) xs h.0,
        distinct_without id xs h.1,
      )
    ]

-- one more entry, with another id
pub distinct_more : (y : Entry) (xs : List Entry) → All (λ e. e.id ≢ y.id) xs → IsDistinct have_one_id xs
    → IsDistinct have_one_id (y ∷ xs)
unfolding IsDistinct
distinct_more y xs others h = (
  each_of (λ (e : Entry). have_one_id y e ≡ false) xs
      (λ k d lt. false_from_ne_true (bytes_eq y.id (get_or xs k d).id)
      (λ same. others k d lt (sym ((bytes_eq-Decides y.id (get_or xs k d).id).0 same)))),
  h,
)

-- the entry at an index has the id
pub without_at : (id : List ℕ) (xs : List Entry) (i : ℕ) → IsDistinct have_one_id xs → i < length xs
    → ((d : Entry) → (get_or xs i d).id ≡ id) → remove xs i ≡ without id xs
without_at id xs i ids l is =
    let pairs = distinct_pairs xs ids in
    let apart : (a b : Entry) → have_one_id a b ≡ false → a.id ≡ b.id → ⊥ =
    λ a b h same. false≢true (sym h ∙ same_id a.id b.id same) in
    remove_is_filter (λ (e : Entry). not (bytes_eq id e.id)) xs i l
    (λ d. ap not (same_id id (get_or xs i d).id (sym (is d))))
    (λ k d lt ne. other_id id (get_or xs k d).id (λ same.
    elim (cases_order k i) as (λ _. ⊥) [
      | inl e ↦ ne e
      | inr o ↦ elim o as (λ _. ⊥) [
        | inl below ↦ apart (get_or xs k d) (get_or xs i d) (pairs k i d below l) (same ∙ sym (is d))
        | inr above ↦ apart (get_or xs i d) (get_or xs k d) (pairs i k d above lt) (is d ∙ sym same)
      ]
    ]))

-- what is left has other ids
pub ids_without : (id : List ℕ) (xs : List Entry) → All (λ e. e.id ≢ id) (without id xs)
ids_without id xs k d lt same =
    both_ways (bytes_eq id (get_or (without id xs) k d).id)
    (not-true (bytes_eq id (get_or (without id xs) k d).id)
    (filter_passes (λ (e : Entry). not (bytes_eq id e.id)) xs k d lt))
    (same_id id (get_or (without id xs) k d).id (sym same))

-- an entry in place of the one with its id
pub distinct_replaced : (y : Entry) (old new : List Entry) → IsPermutation (y ∷ without y.id old) new
    → IsDistinct have_one_id old → IsDistinct have_one_id new
distinct_replaced y old new put h =
    distinct_alike (y ∷ without y.id old) new put
    (distinct_more y (without y.id old) (ids_without y.id old) (distinct_without y.id old h))

-- entries of the mappings that one event adds
pub distinct_placed : (es : List Entry) → IdsDiffer (map placed_of es) → IsDistinct have_one_id es
unfolding IsDistinct
distinct_placed [] h = tt
distinct_placed (e ∷ es) h = (no_other es h.0, distinct_placed es h.1)
  where
    no_other : (xs : List Entry) → is_held (map placed_of xs) e.id ≡ false
        → AllByRecursion (λ y. have_one_id e y ≡ false) xs
    no_other [] g = tt
    no_other (x ∷ xs) g =
        let both : (bytes_eq x.id e.id ≡ false) × (is_held (map placed_of xs) e.id ≡ false) =
        or_parts (bytes_eq x.id e.id) (is_held (map placed_of xs) e.id) g in
        (same_back e x ∙ both.0, no_other xs both.1)
