-- How often a number is in a list of numbers in their order.
use Rattle.std.proofs.Common.{◌≡◌, ℕ, zero, suc, ◌+◌, ◌<◌, ◌≤◌, ◌⊎◌, inl, inr, List, [], ◌∷◌, ◌++◌, length, get_or}
use Rattle.std.proofs.Common.{take, cond, true, false, ◌==◌, refl, sym, ap, ◌∙◌, subst, arith}
use Rattle.std.proofs.lemmas.Bool.Decides.{nat_tests}
use Rattle.std.proofs.lemmas.List.{get_or_default, take_more, get_or-take, length-take-le}
use Rattle.std.proofs.lemmas.List.FromFn.{get_or-range_with_len}
use Rattle.std.proofs.lemmas.List.Sorted.{sum_by-IsPermutation, length_permutation}
use Rattle.std.proofs.lemmas.List.Sums.{get_or-le-sum_by, sum_by_more_le, sum_by-le}
use Rattle.std.specs.List.{range_with_len}
use Rattle.std.specs.List.Sorted.{IsNonDecreasing, IsPermutation}
use Rattle.std.specs.Prelude.{MatchOption, Option, Some, None}
use Rattle.shared_book.specs.Receipts.{count_of}
use Rattle.shared_book.specs.Settled.{IsDue, IsMiscounted}

abbrev one_if : ℕ → ℕ → ℕ
one_if n m = cond (m == n) 1 0

same_test : (a b : ℕ) → a ≡ b → (a == b) ≡ true
same_test a b e = grind (arith, nat_tests)

below_test : (a b : ℕ) → a < b → (a == b) ≡ false
below_test a b l = grind (arith, nat_tests)

above_test : (a b : ℕ) → b < a → (a == b) ≡ false
above_test a b l = grind (arith, nat_tests)

one_of : (n m : ℕ) → m ≡ n → one_if n m ≡ 1
one_of n m e = ap (λ b. cond b 1 0) (same_test m n e)

none_of : (n m : ℕ) → (m < n) ⊎ (n < m) → one_if n m ≤ 0
none_of n m (inl l) = let e : one_if n m ≡ 0 = ap (λ b. cond b 1 0) (below_test m n l) in omega (arith, e)
none_of n m (inr l) = let e : one_if n m ≡ 0 = ap (λ b. cond b 1 0) (above_test m n l) in omega (arith, e)

pub count_some : (n : ℕ) (xs : List ℕ) (i d : ℕ) → i < length xs → get_or xs i d ≡ n → 1 ≤ count_of n xs
count_some n xs i d l e =
    let le = get_or-le-sum_by (one_if n) xs i d l in
    let one = one_of n (get_or xs i d) e in
    omega (arith, le, one)

pub count_two : (n : ℕ) (xs : List ℕ) (i j d : ℕ) → i < j → j < length xs
    → get_or xs i d ≡ n → get_or xs j d ≡ n → 2 ≤ count_of n xs
count_two n xs i j d l k e e' =
    let len : length (take j xs) ≡ j = length-take-le j xs (omega arith) in
    let le = get_or-le-sum_by (one_if n) (take j xs) i d (omega (arith, len)) in
    let first = one_of n (get_or (take j xs) i d) (get_or-take j xs i d l ∙ e) in
    let more = sum_by_more_le (one_if n) xs j d k in
    let second = one_of n (get_or xs j d) e' in
    omega (arith, le, first, more, second)

pub count_none : (n : ℕ) (xs : List ℕ)
    → ((j d : ℕ) → j < length xs → (get_or xs j d < n) ⊎ (n < get_or xs j d))
    → count_of n xs ≡ 0
count_none n xs apart =
    let le = sum_by-le (one_if n) 0 xs (λ j d l. none_of n (get_or xs j d) (apart j d l)) in
    omega (arith, le)

count_moved : (n : ℕ) (xs ys : List ℕ) → IsPermutation xs ys → count_of n ys ≡ count_of n xs
count_moved n xs ys p = sum_by-IsPermutation (one_if n) xs ys p

range_more : (a n : ℕ) → range_with_len a n ++ (a + n) ∷ [] ≡ range_with_len a (suc n)
range_more a zero = ap (λ k. k ∷ []) (more_zero a)
  where
    more_zero : (a : ℕ) → a + 0 ≡ a
    more_zero a = omega arith
range_more a (suc n) =
    ap (λ k. a ∷ (range_with_len (a + 1) n ++ k ∷ [])) (up a n) ∙ ap (λ l. a ∷ l) (range_more (a + 1) n)
  where
    up : (a n : ℕ) → a + suc n ≡ a + 1 + n
    up a n = omega arith

number_before : (a : ℕ) (xs : List ℕ) (i j d : ℕ) → i ≤ length xs → j < i
    → take i xs ≡ range_with_len a i → get_or xs j d ≡ a + j
number_before a xs i j d l k e =
    sym (get_or-take i xs j d k) ∙ ap (λ ns. get_or ns j d) e ∙ get_or-range_with_len a i j d k

pub numbers_more : (a : ℕ) (xs : List ℕ) (i d : ℕ) → i < length xs
    → take i xs ≡ range_with_len a i → get_or xs i d ≡ a + i
    → take (i + 1) xs ≡ range_with_len a (i + 1)
numbers_more a xs i d l e n =
    let up : suc i ≡ i + 1 = omega arith in
    take_more xs i d l
    ∙ ap (λ ns. ns ++ get_or xs i d ∷ []) e
    ∙ ap (λ k. range_with_len a i ++ k ∷ []) n
    ∙ range_more a i
    ∙ ap (range_with_len a) up

-- the numbers begin well, and the next is too low: it was there before, or isn't due at all
pub too_low : (start : ℕ) (xs : List ℕ) (i d : ℕ) → i < length xs
    → IsNonDecreasing xs → take i xs ≡ range_with_len (start + 1) i
    → get_or xs i d < start + 1 + i → IsMiscounted start xs (get_or xs i d)
too_low start xs zero d l up e low =
    inr (
      (λ (due : IsDue start xs (get_or xs 0 d)). absurd (let a = due.0 in omega (arith, a, low))),
      (let some = count_some (get_or xs 0 d) xs 0 d l refl in omega (arith, some)),
    )
too_low start xs (suc i) d l up e low =
    let before : get_or xs i d ≡ start + 1 + i =
    number_before (start + 1) xs (suc i) i d (omega arith) (omega arith) e in
    let le : get_or xs i d ≤ get_or xs (suc i) d = up i (suc i) d (omega arith) l in
    let same : get_or xs i d ≡ get_or xs (suc i) d = omega (arith, before, le, low) in
    let two = count_two (get_or xs (suc i) d) xs i (suc i) d (omega arith) l same refl in
    inl ((omega (arith, before, same), omega (arith, before, same, l)), λ one. absurd (omega (arith, two, one)))

less_or_not : (j i : ℕ) → (j < i) ⊎ (i ≤ j)
less_or_not j i = grind arith

-- no number is the one that is due
apart_from : (start : ℕ) (xs : List ℕ) (i d : ℕ) → i < length xs
    → IsNonDecreasing xs → take i xs ≡ range_with_len (start + 1) i
    → start + 1 + i < get_or xs i d → (j x : ℕ) → j < length xs
    → (get_or xs j x < start + 1 + i) ⊎ (start + 1 + i < get_or xs j x)
apart_from start xs i d l up e high j x k =
    elim (less_or_not j i) as
    (λ _. (get_or xs j x < start + 1 + i) ⊎ (start + 1 + i < get_or xs j x)) [
      | inl below ↦ inl (let n = number_before (start + 1) xs i j x (omega arith) below e in omega (arith, n, below))
      | inr above ↦ inr
          (let le = up i j x above k in
          let same : get_or xs i x ≡ get_or xs i d = get_or_default xs i x d l in
          omega (arith, le, same, high))
    ]

-- the numbers begin well, and the next is too high: the one that is due is missing
pub too_high : (start : ℕ) (xs : List ℕ) (i d : ℕ) → i < length xs
    → IsNonDecreasing xs → take i xs ≡ range_with_len (start + 1) i
    → start + 1 + i < get_or xs i d → IsMiscounted start xs (start + 1 + i)
too_high start xs i d l up e high =
    let none = count_none (start + 1 + i) xs (apart_from start xs i d l up e high) in
    inl ((omega arith, omega (arith, l)), λ one. absurd (omega (arith, none, one)))

-- what is found of the numbers in their order is so of the numbers
miscounted_moved : (start : ℕ) (xs ys : List ℕ) (n : ℕ) → IsPermutation xs ys → IsMiscounted start ys n
    → IsMiscounted start xs n
miscounted_moved start xs ys n p (inl wrong) =
    inl (
      (wrong.0.0, subst (λ (k : ℕ). n ≤ start + k) (length_permutation xs ys p) wrong.0.1),
      (λ (e : count_of n xs ≡ 1). wrong.1 (count_moved n xs ys p ∙ e)),
    )
miscounted_moved start xs ys n p (inr wrong) =
    inr (
      (λ (due : IsDue start xs n).
          wrong.0 (due.0, subst (λ (k : ℕ). n ≤ start + k) (sym (length_permutation xs ys p)) due.1)),
      subst (λ (k : ℕ). 0 < k) (count_moved n xs ys p) wrong.1,
    )

pub counted_moved : (start : ℕ) (xs ys : List ℕ) (found : Option ℕ) → IsPermutation xs ys
    → MatchOption found (ys ≡ range_with_len (start + 1) (length ys)) (IsMiscounted start ys)
    → MatchOption found (IsPermutation xs (range_with_len (start + 1) (length xs))) (IsMiscounted start xs)
counted_moved start xs ys None p all =
    subst (λ (k : ℕ). IsPermutation xs (range_with_len (start + 1) k)) (length_permutation xs ys p)
    (subst (IsPermutation xs) all p)
counted_moved start xs ys (Some n) p wrong = miscounted_moved start xs ys n p wrong
