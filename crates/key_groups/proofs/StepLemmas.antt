-- One key more in the lists of `specs/Groups.antt`.
use Rattle.std.proofs.Common.{◌≡◌, ℕ, ◌+◌, ◌<◌, ◌≤◌, Bool, List, [], ◌∷◌, ◌++◌, length}
use Rattle.std.proofs.Common.{get_or, take, drop, refl, sym, ap, ◌∙◌, ⊎_elim, arith, Option, suc}
use Rattle.std.specs.Prelude.{◌&&◌, ◌==◌, nat_lt, if◌then◌else◌, count_by}
use Rattle.std.proofs.lemmas.Bool.{cases_eq, eq-eqb, ne_eqb}
use Rattle.std.proofs.lemmas.List.{at_drop_more, take_more, length-take-le}
use Rattle.std.proofs.lemmas.List.Sums.{count_by-le-length}
use Rattle.key_groups.specs.Groups.{times, begins_larger, group_of, larger_from, place_of, places_from}

-- a count of a front is below the whole's length
pub count_by-take-lt : {K : Type 0} (p : K → Bool) (keys : List K) (i : ℕ) → i < length keys
    → count_by p (take i keys) < length keys
count_by-take-lt p keys i l =
    let within : i ≤ length keys = omega arith in
    let short : count_by p (take i keys) ≤ length (take i keys) = count_by-le-length p (take i keys) in
    let front : length (take i keys) ≡ i = length-take-le i keys within in
    omega arith

first_same : (n : ℕ) → (n + 1 == 1) ≡ (n == 0)
first_same n =
    ⊎_elim
    (λ (none : n ≡ 0). eq-eqb (n + 1) 1 (omega arith) ∙ sym (eq-eqb n 0 none))
    (λ some. ne_eqb (n + 1) 1 (λ e. some (omega (arith, e))) ∙ sym (ne_eqb n 0 some))
    (cases_eq n 0)

module _ {K : Type 0} (same : K → K → Bool) (keys : List K) (i : ℕ) where
  -- the test of the code, which counts from 1
  pub begins_same
      : (key : K) (position size : ℕ) (begins : Bool) → begins ≡ ((position == 1) && nat_lt 1 size)
      → position ≡ times same key (take i keys) + 1 → size ≡ times same key keys
      → begins ≡ begins_larger same keys (take i keys) key
  begins_same key position size begins tested e f =
      tested ∙ (λ j. (e j == 1) && nat_lt 1 (f j))
      ∙ ap (λ b. b && nat_lt 1 (times same key keys)) (first_same (times same key (take i keys)))

  pub larger_from-step : (key : K) (begins : Bool) → i < length keys → key ≡ get_or keys i key
      → begins_larger same keys (take i keys) key ≡ begins
      → larger_from same keys (take i keys) (drop i keys)
      ≡ (if begins then key ∷ [] else []) ++ larger_from same keys (take (i + 1) keys) (drop (i + 1) keys)
  larger_from-step key begins l here decided =
      at_drop_more (larger_from same keys (take i keys)) keys i key l
      ∙ ap (λ before. (if begins_larger same keys (take i keys) (get_or keys i key) then get_or keys i key ∷ []
      else []) ++ larger_from same keys before (drop (i + 1) keys)) (sym (take_more keys i key l))
      ∙ ap (λ k. (if begins_larger same keys (take i keys) k then k ∷ [] else [])
      ++ larger_from same keys (take (i + 1) keys) (drop (i + 1) keys)) (sym here)
      ∙ ap (λ b. (if b then key ∷ [] else [])
      ++ larger_from same keys (take (i + 1) keys) (drop (i + 1) keys)) decided

  pub places_from-step : (d : K) → i < length keys
      → places_from same keys (take i keys) (drop i keys) ≡ place_of same keys (take i keys) (get_or keys i d)
      ∷ places_from same keys (take (i + 1) keys) (drop (i + 1) keys)
  places_from-step d l =
      at_drop_more (places_from same keys (take i keys)) keys i d l
      ∙ ap (λ before. place_of same keys (take i keys) (get_or keys i d)
      ∷ places_from same keys before (drop (i + 1) keys)) (sym (take_more keys i d l))

  pub place_of-parts : (key : K) (p s : ℕ) (g : Option ℕ) → p ≡ times same key (take i keys) + 1
      → s ≡ times same key keys → g ≡ group_of same keys key
      → record { position = p; size = s; group = g } ≡ place_of same keys (take i keys) key
  place_of-parts key p s g e f h = λ j. record { position = e j; size = f j; group = h j }

-- each key has its place
pub length-places_from
    : {K : Type 0} (same : K → K → Bool) (all before rest : List K)
    → length (places_from same all before rest) ≡ length rest
length-places_from same all before [] = refl
length-places_from same all before (key ∷ rest) = ap suc (length-places_from same all (before ++ key ∷ []) rest)
