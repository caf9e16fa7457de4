-- The order of choice on numbers.
use Rattle.std.proofs.Common.{◌≡◌, ◌⊎◌, inl, inr, ℕ, ◌<◌, ℤ, ◌<ℤ◌, Bool, true, false, List}
use Rattle.std.proofs.Common.{get_or, refl, sym, ap, ◌∙◌, arith}
use denote.Ref.{Bor}
use Rattle.std.specs.Cmp.{IsTotalOrder, IsStrictWeakOrder}
use Rattle.std.specs.Fn.{Called, ComparesAs}
use Rattle.std.specs.List.{AllPairs}
use Rattle.std.specs.List.Sorted.{IsSortedBy}
use Rattle.std.specs.Ordering.{nat_cmp, int_cmp, ordering_then, ordering_reverse, is_gt, is_lt, MatchOrdering}
use Rattle.std.specs.declared.cmp.Ordering.{Ordering}
use Rattle.std.specs.declared.cmp.Ordering.TheVariants.{Less, Equal, Greater}
use Rattle.std.proofs.lemmas.Bool.{true≢false, false≢true}
use Rattle.std.proofs.lemmas.Cmp.{ranked, int_ranked}
use Rattle.std.proofs.lemmas.Fn.{always_returns_same}
use Rattle.std.proofs.lemmas.List.MinMax.{ranks_by}
use Rattle.std.proofs.lemmas.List.Sorted.{sorted_far}
use denote.Param.Members.{Mut}
use Rattle.std.proofs.lemmas.Int.{ints}

-- ---- a total order

module _ {K : Type 0} {R : K → K → Ordering} (o : IsTotalOrder R) where
  pub less_than : (a b c : K) → is_gt (R a b) ≡ false → is_lt (R b c) ≡ true → is_lt (R a c) ≡ true
  less_than a b c h l =
      elim (R a b) as (λ r. R a b ≡ r → is_lt (R a c) ≡ true) [
        | Less ↦ λ e. elim (R b c) as (λ s. R b c ≡ s → is_lt (R a c) ≡ true) [
          | Less ↦ λ f. ap is_lt (o.trans a b c e f)
          | Equal ↦ λ f. absurd (false≢true (sym (ap is_lt f) ∙ l))
          | Greater ↦ λ f. absurd (false≢true (sym (ap is_lt f) ∙ l))
        ] refl
        | Equal ↦ λ e. ap is_lt (o.congr a b c e) ∙ l
        | Greater ↦ λ e. absurd (true≢false (sym (ap is_gt e) ∙ h))
      ] refl

  not_after : (r : Ordering) → is_lt r ≡ true → is_gt r ≡ false
  not_after Less h = refl
  not_after Equal h = refl
  not_after Greater h = absurd (false≢true h)

  pub from_less : (a b : K) → is_lt (R a b) ≡ true → is_gt (R a b) ≡ false
  from_less a b h = not_after (R a b) h

  turned : (r : Ordering) → is_lt r ≡ false → is_gt (ordering_reverse r) ≡ false
  turned Less h = absurd (true≢false h)
  turned Equal h = refl
  turned Greater h = refl

  pub from_not_less : (a b : K) → is_lt (R a b) ≡ false → is_gt (R b a) ≡ false
  from_not_less a b h = ap is_gt (o.antisymm b a) ∙ turned (R a b) h

  -- what a sort by the order leaves
  pub sorted_by : {F : Type 0} {g : Mut F (Bor K × (Bor K × Unit {0})) Ordering} {f : F} (xs : List K)
      → ((lt : K → K → Bool) → IsStrictWeakOrder lt → ComparesAs g lt f → IsSortedBy lt xs)
      → ((a : Bor K × (Bor K × Unit {0})) (r : Ordering) (f' : F) → Called g f a r f'
      → (r ≡ R a.0.now a.1.0.now) × (f' ≡ f))
      → AllPairs (λ a b. is_gt (R a b) ≡ false) xs
  sorted_by {g = g} {f = f} xs sorted calls i j d l within =
      let less : K → K → Bool = λ a b. is_lt (R a b) in
      let weak : IsStrictWeakOrder less = ranks_by o (λ a. a) in
      let compares : ComparesAs g less f =
      always_returns_same g (λ a r. is_lt r ≡ less a.0.now a.1.0.now) f
      (λ a r f' call. (ap is_lt (calls a r f' call).0, (calls a r f' call).1)) in
      from_not_less (get_or xs j d) (get_or xs i d)
      (sorted_far less weak xs (sorted less weak compares) i j d (omega arith) within)

-- ---- priorities, numbers of events and indexes

abbrev pub Newer : ℕ → ℕ → ℕ → ℕ → Type 0
Newer e i f j = (f < e) ⊎ ((e ≡ f) × (j < i))

no_newer : (o q : Ordering) (e f i j : ℕ) → MatchOrdering o (f < e) (f ≡ e) (e < f)
    → MatchOrdering q (j < i) (j ≡ i) (i < j) → is_gt (ordering_then o q) ≡ false → Newer f j e i → ⊥
no_newer Less q e f i j s t h (inl w) = omega arith
no_newer Less q e f i j s t h (inr w) = omega arith
no_newer Equal Less e f i j s t h (inl w) = omega arith
no_newer Equal Less e f i j s t h (inr w) = omega arith
no_newer Equal Equal e f i j s t h (inl w) = omega arith
no_newer Equal Equal e f i j s t h (inr w) = omega arith
no_newer Equal Greater e f i j s t h w = true≢false h
no_newer Greater q e f i j s t h w = true≢false h

no_win : (o q : Ordering) (p r : ℤ) (W : Type 0) → MatchOrdering o (p <ℤ r) (p ≡ r) (r <ℤ p)
    → is_gt (ordering_then o q) ≡ false → (is_gt q ≡ false → W → ⊥)
    → (r <ℤ p) ⊎ ((r ≡ p) × W) → ⊥
no_win Less q p r W s h f (inl w) = omega (arith, ints)
no_win Less q p r W s h f (inr w) = omega (arith, ints, w.0)
no_win Equal q p r W s h f (inl w) = omega (arith, ints)
no_win Equal q p r W s h f (inr w) = f h w.1
no_win Greater q p r W s h f w = true≢false h

-- the first isn't beaten, so the second doesn't win over it
pub not_over : (p r : ℤ) (e f i j : ℕ)
    → is_gt (ordering_then (int_cmp p r) (ordering_then (nat_cmp f e) (nat_cmp j i))) ≡ false
    → (r <ℤ p) ⊎ ((r ≡ p) × Newer f j e i) → ⊥
not_over p r e f i j h =
    no_win (int_cmp p r) (ordering_then (nat_cmp f e) (nat_cmp j i)) p r (Newer f j e i)
    (int_ranked p r (int_cmp p r) refl) h
    (no_newer (nat_cmp f e) (nat_cmp j i) e f i j (ranked f e (nat_cmp f e) refl) (ranked j i (nat_cmp j i) refl))

-- the first isn't less, so the second isn't newer
pub not_newer : (e f i j : ℕ) → is_gt (ordering_then (nat_cmp f e) (nat_cmp j i)) ≡ false
    → Newer f j e i → ⊥
not_newer e f i j =
    no_newer (nat_cmp f e) (nat_cmp j i) e f i j (ranked f e (nat_cmp f e) refl) (ranked j i (nat_cmp j i) refl)
