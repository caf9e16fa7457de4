-- Lists in other orders, and inserts into lists whose elements are in an order.
use Rattle.std.proofs.Common.{◌≡◌, ◌⊎◌, inl, inr, ℕ, zero, suc, ◌+◌, ◌<◌, ◌≤◌, Bool, true}
use Rattle.std.proofs.Common.{false, cond, List, [], ◌∷◌, length, get_or, set, sym, ap, subst, ◌∙◌, arith}
use Rattle.std.specs.List.{AllPairs, filter, insert, swap}
use Rattle.std.specs.List.Sorted.{IsPermutation}
use Rattle.std.proofs.lemmas.Bool.{cases_order}
use Rattle.std.proofs.lemmas.List.Edits.{get_or-insert_below, get_or-insert_at, get_or-insert_above, length-insert}
use Rattle.std.proofs.lemmas.List.Edits.{swap_is}
use Rattle.std.proofs.lemmas.List.Sorted.{IsPermutation-refl, IsPermutation-cons, IsPermutation-trans}
use Rattle.std.proofs.lemmas.List.Sorted.{IsPermutation-middle, IsPermutation-keeps}

-- ---- a filter of a permutation

module _ {X : Type 0} (p : X → Bool) where
  abbrev SameKept : List X → List X → Type 0
  SameKept xs ys = IsPermutation (filter p xs) (filter p ys)

  kept_cons : (x : X) (xs ys : List X) → SameKept xs ys → SameKept (x ∷ xs) (x ∷ ys)
  kept_cons x xs ys h =
      elim (p x) as (λ b. IsPermutation (cond b (x ∷ filter p xs) (filter p xs))
      (cond b (x ∷ filter p ys) (filter p ys))) [
        | true ↦ IsPermutation-cons x (filter p xs) (filter p ys) h
        | false ↦ h
      ]

  kept_heads : (x y : X) (xs : List X) → SameKept (x ∷ y ∷ xs) (y ∷ x ∷ xs)
  kept_heads x y xs =
      elim (p x) as (λ b. IsPermutation
      (cond b (x ∷ cond (p y) (y ∷ filter p xs) (filter p xs)) (cond (p y) (y ∷ filter p xs) (filter p xs)))
      (cond (p y) (y ∷ cond b (x ∷ filter p xs) (filter p xs)) (cond b (x ∷ filter p xs) (filter p xs)))) [
        | true ↦ elim (p y) as (λ b. IsPermutation
            (x ∷ cond b (y ∷ filter p xs) (filter p xs)) (cond b (y ∷ x ∷ filter p xs) (x ∷ filter p xs))) [
              | true ↦ IsPermutation-middle (x ∷ []) y (filter p xs)
              | false ↦ IsPermutation-refl (x ∷ filter p xs)
            ]
        | false ↦ IsPermutation-refl (cond (p y) (y ∷ filter p xs) (filter p xs))
      ]

  -- the head and the element at an index are exchanged
  kept_exchange : (xs : List X) (i : ℕ) (x : X) → i < length xs
      → SameKept (x ∷ xs) (get_or xs i x ∷ set xs i x)
  kept_exchange [] i x l = absurd (omega arith)
  kept_exchange (y ∷ ys) zero x l = kept_heads x y ys
  kept_exchange (y ∷ ys) (suc i) x l =
      IsPermutation-trans _ _ _ (kept_heads x y ys)
      (IsPermutation-trans
      _ _ _ (kept_cons y (x ∷ ys) (get_or ys i x ∷ set ys i x) (kept_exchange ys i x (omega arith)))
      (kept_heads y (get_or ys i x) (set ys i x)))

  kept_swap : (xs : List X) (i j : ℕ) → i < length xs → j < length xs → SameKept xs (swap xs i j)
  kept_swap [] i j l m = absurd (omega arith)
  kept_swap (x ∷ xs) zero zero l m = IsPermutation-refl (filter p (x ∷ xs))
  kept_swap (x ∷ xs) zero (suc j) l m = kept_exchange xs j x (omega arith)
  kept_swap (x ∷ xs) (suc i) zero l m = kept_exchange xs i x (omega arith)
  kept_swap (x ∷ xs) (suc i) (suc j) l m =
      let li : i < length xs = omega arith in
      let lj : j < length xs = omega arith in
      subst (λ l. SameKept (x ∷ xs) (x ∷ l)) (sym (swap_is xs i j x li lj))
      (kept_cons x xs (swap xs i j) (kept_swap xs i j li lj))

  pub IsPermutation-filter : (xs ys : List X) → IsPermutation xs ys → IsPermutation (filter p xs) (filter p ys)
  IsPermutation-filter xs ys h =
      IsPermutation-keeps xs (SameKept xs) (IsPermutation-refl (filter p xs))
      (λ l i j li lj same. IsPermutation-trans _ _ _ same (kept_swap l i j li lj)) ys h

-- ---- an insert into a list in order

-- what an insert leaves at an index
abbrev Left : {X : Type 0} → List X → ℕ → X → ℕ → X → Type 0
Left {X} xs i y k d =
    ((k < i) × (get_or (insert xs i y) k d ≡ get_or xs k d))
    ⊎ (((k ≡ i) × (get_or (insert xs i y) k d ≡ y))
    ⊎ ((m : ℕ) × (i ≤ m) × (k ≡ m + 1) × (get_or (insert xs i y) k d ≡ get_or xs m d)))

one_less : (k : ℕ) → 0 < k → (m : ℕ) × (k ≡ m + 1)
one_less zero l = absurd (omega arith)
one_less (suc k) l = (k, omega arith)

left_at : {X : Type 0} (xs : List X) (i : ℕ) (y : X) (k : ℕ) (d : X) → i ≤ length xs → Left xs i y k d
left_at xs i y k d l =
    elim (cases_order k i) as (λ _. Left xs i y k d) [
      | inl same ↦ inr (inl (same, ap (λ n. get_or (insert xs i y) n d) same ∙ get_or-insert_at xs i y d l))
      | inr other ↦ elim other as (λ _. Left xs i y k d) [
        | inl below ↦ inl (below, get_or-insert_below xs i y d k below l)
        | inr above ↦
            let less = one_less k (omega arith) in
            let m : ℕ = less.0 in
            let is : k ≡ m + 1 = less.1 in
            let le : i ≤ m = omega arith in
            inr (inr (m, le, is, ap (λ n. get_or (insert xs i y) n d) is ∙ get_or-insert_above xs i y d m le l))
      ]
    ]

pub AllPairs-insert : {X : Type 0} (R : X → X → Type 0) (xs : List X) (i : ℕ) (y : X)
    → i ≤ length xs → AllPairs R xs → ((k : ℕ) (d : X) → k < i → R (get_or xs k d) y)
    → ((k : ℕ) (d : X) → i ≤ k → k < length xs → R y (get_or xs k d))
    → AllPairs R (insert xs i y)
AllPairs-insert {X} R xs i y l pairs before after a b d lt lb =
    let lower : b < length xs + 1 = omega (arith, length-insert xs i y l) in
    let Goal : Type 0 = R (get_or (insert xs i y) a d) (get_or (insert xs i y) b d) in
    let from : (u v : X) → get_or (insert xs i y) a d ≡ u → get_or (insert xs i y) b d ≡ v → R u v → Goal =
    λ u v e f r. subst (λ w. R w (get_or (insert xs i y) b d)) (sym e) (subst (λ w. R u w) (sym f) r) in
    elim (left_at xs i y a d l) as (λ _. Goal) [
      | inl x ↦ elim (left_at xs i y b d l) as (λ _. Goal) [
        | inl z ↦ from _ _ x.1 z.1 (pairs a b d lt (omega arith))
        | inr w ↦ elim w as (λ _. Goal) [
          | inl z ↦ from _ _ x.1 z.1 (before a d x.0)
          | inr z ↦ from _ _ x.1 z.3 (pairs a z.0 d (omega arith) (omega arith))
        ]
      ]
      | inr q ↦ elim q as (λ _. Goal) [
        | inl x ↦ elim (left_at xs i y b d l) as (λ _. Goal) [
          | inl z ↦ absurd (omega arith)
          | inr w ↦ elim w as (λ _. Goal) [
            | inl z ↦ absurd (omega arith)
            | inr z ↦ from _ _ x.1 z.3 (after z.0 d z.1 (omega arith))
          ]
        ]
        | inr x ↦ elim (left_at xs i y b d l) as (λ _. Goal) [
          | inl z ↦ absurd (omega arith)
          | inr w ↦ elim w as (λ _. Goal) [
            | inl z ↦ absurd (omega arith)
            | inr z ↦ from _ _ x.3 z.3 (pairs x.0 z.0 d (omega arith) (omega arith))
          ]
        ]
      ]
    ]
