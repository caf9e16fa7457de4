-- Which ids are the last of their groups, and ids that all differ.
use Rattle.std.proofs.Common.{◌≡◌, ℕ, ◌+◌, ◌==◌, Bool, true, false, not, ◌||◌, cond, List, [], ◌∷◌, ◌++◌, map, refl}
use Rattle.std.proofs.Common.{sym, ap, ◌∙◌, arith, append_assoc}
use Rattle.std.specs.List.{list_any, count_by}
use Rattle.std.specs.Str.{bytes_eq}
use Rattle.std.proofs.lemmas.Bool.{eq-eqb, ne_eqb}
use Rattle.std.proofs.lemmas.List.Sums.{sum_by-append}
use Rattle.key_groups.specs.Groups.{times, places_from, places_of}
use Rattle.mapping_store.specs.Ids.{lasts_among, is_last}

plus_none : (n : ℕ) → 0 + n ≡ n
plus_none n = omega arith

count_more : (p : List ℕ → Bool) (id : List ℕ) (ids : List (List ℕ))
    → count_by p (id ∷ ids) ≡ cond (p id) 1 0 + count_by p ids
count_more p id ids =
    sum_by-append (λ o. cond (p o) 1 0) (id ∷ []) ids ∙ ap (λ n. n + count_by p ids) (plus_none (cond (p id) 1 0))

-- the count is nothing where none passes, and the last of a group has no other after it
none_after : (before : ℕ) (p : List ℕ → Bool) (ids : List (List ℕ))
    → (before + 1 == before + (1 + count_by p ids)) ≡ not (list_any p ids)
none_after before p [] = eq-eqb (before + 1) (before + (1 + 0)) (omega arith)
none_after before p (id ∷ ids) =
    ap (λ n. before + 1 == before + (1 + n)) (count_more p id ids) ∙ by_case (p id) (none_after before p ids)
  where
    by_case : (b : Bool) → (before + 1 == before + (1 + count_by p ids)) ≡ not (list_any p ids)
        → (before + 1 == before + (1 + (cond b 1 0 + count_by p ids))) ≡ not (b || list_any p ids)
    by_case true later = ne_eqb (before + 1) (before + (1 + (1 + count_by p ids))) (λ e. omega (arith, e))
    by_case false later = ap (λ n. before + 1 == before + (1 + n)) (plus_none (count_by p ids)) ∙ later

module _ (same : List ℕ → List ℕ → Bool) (is : (a b : List ℕ) → same a b ≡ bytes_eq a b) where
  times_whole : (id : List ℕ) (before ids : List (List ℕ)) → same id id ≡ true
      → times same id (before ++ id ∷ ids) ≡ times same id before + (1 + times same id ids)
  times_whole id before ids itself =
      sum_by-append (λ o. cond (same o id) 1 0) before (id ∷ ids)
      ∙ ap (λ n. count_by (λ o. same o id) before + n) (count_more (λ o. same o id) id ids)
      ∙ ap (λ b. count_by (λ o. same o id) before + (cond b 1 0 + count_by (λ o. same o id) ids)) itself

  alike : (id : List ℕ) (ids : List (List ℕ))
      → list_any (λ o. same o id) ids ≡ list_any (λ o. bytes_eq o id) ids
  alike id [] = refl
  alike id (o ∷ ids) = λ i. is o id i || alike id ids i

  lasts_from : ((id : List ℕ) → same id id ≡ true) → (all before ids : List (List ℕ))
      → all ≡ before ++ ids → map is_last (places_from same all before ids) ≡ lasts_among ids
  lasts_from itself all before [] whole = refl
  lasts_from itself all before (id ∷ ids) whole =
      let size : times same id all ≡ times same id before + (1 + times same id ids) =
      ap (times same id) whole ∙ times_whole id before ids (itself id) in
      let here : (times same id before + 1 == times same id all) ≡ not (list_any (λ o. bytes_eq o id) ids) =
      ap (λ n. times same id before + 1 == n) size ∙ none_after (times same id before) (λ o. same o id) ids
      ∙ ap not (alike id ids) in
      let later = lasts_from itself all (before ++ id ∷ []) ids
      (whole ∙ sym (append_assoc before (id ∷ []) ids)) in
      (λ i. here i ∷ later i)

pub lasts_of_places : (same : List ℕ → List ℕ → Bool) → ((a b : List ℕ) → same a b ≡ bytes_eq a b)
    → ((id : List ℕ) → bytes_eq id id ≡ true) → (ids : List (List ℕ))
    → map is_last (places_of same ids) ≡ lasts_among ids
lasts_of_places same is itself ids = lasts_from same is (λ id. is id id ∙ itself id) ids [] ids refl
