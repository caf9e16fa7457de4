-- Pairs in the order of their keys: what a search finds among them, and what an edit does.
use Rattle.std.proofs.Common.{◌≡◌, ℕ, zero, suc, ◌<◌, ◌≤◌, Bool, true, false, not, ◌&&◌, T, List}
use Rattle.std.proofs.Common.{[], ◌∷◌, length, get_or, set, Some, None, refl, ap, subst, ◌∙◌, arith}
use Rattle.std.specs.declared.cmp.Ordering.{Ordering}
use Rattle.std.specs.declared.cmp.Ordering.TheVariants.{Less, Equal, Greater}
use Rattle.std.specs.Cmp.{IsTotalOrder, tied_itself}
use Rattle.std.specs.FinMap.Entries.{find, put, is_sorted, below_all, where_key}
use Rattle.std.specs.List.{insert, remove}
use Rattle.std.specs.Ordering.{is_lt, ordering_reverse, eq_by_cmp}

first_so : (a b : Bool) → T (a && b) → T a
first_so true b h = tt
first_so false b h = h

second_so : (a b : Bool) → T (a && b) → T b
second_so true b h = h
second_so false b h = absurd h

less_so : (r : Ordering) → T (is_lt r) → r ≡ Less
less_so Less h = refl
less_so Equal h = absurd h
less_so Greater h = absurd h

-- the key is another one
abbrev pub is_other : {K : Type 0} → (K → K → Ordering) → K → K → Bool
is_other R k x = not (eq_by_cmp R k x)

turned : {K : Type 0} {R : K → K → Ordering} → IsTotalOrder R → (x y : K) (r : Ordering) → R x y ≡ r →
    R y x ≡ ordering_reverse r
turned o x y r e = o.antisymm y x ∙ ap ordering_reverse e

module _ {K X : Type 0} {R : K → K → Ordering} (o : IsTotalOrder R) where
  -- a key below all keys is below the key at an index
  below_at : (x : K) (es : List (K × X)) (at : ℕ) (d : K × X) → T (below_all R x es) → at < length es →
      R x (get_or es at d).0 ≡ Less
  below_at x [] at d h lt = absurd (omega arith)
  below_at x (e ∷ es) zero d h lt = less_so _ (first_so _ _ h)
  below_at x (e ∷ es) (suc at) d h lt = below_at x es at d (second_so _ _ h) (omega arith)

  -- in order, the key at a later index is above the first
  above_first : (e : K × X) (es : List (K × X)) (k : K) (at : ℕ) (d : K × X) → T (is_sorted R (e ∷ es)) →
      at < length es → (get_or es at d).0 ≡ k → R k e.0 ≡ Greater
  above_first e es k at d s lt is =
      turned o e.0 k Less (subst (λ y. R e.0 y ≡ Less) is (below_at e.0 es at d (first_so _ _ s) lt))

  -- the value at the index of the key
  pub find_at : (es : List (K × X)) (k : K) (at : ℕ) (d : K × X) → T (is_sorted R es) → at < length es →
      (get_or es at d).0 ≡ k → find R k es ≡ Some (get_or es at d).1
  find_at [] k at d s lt e = absurd (omega arith)
  find_at (e ∷ es) k zero d s lt is = rw (is, tied_itself o k) refl
  find_at (e ∷ es) k (suc at) d s lt is =
      rw (above_first e es k at d s (omega arith) is) (find_at es k at d (second_so _ _ s) (omega arith) is)

  -- a new value at the index of the key
  pub put_at : (es : List (K × X)) (k : K) (v : X) (at : ℕ) (d : K × X) → T (is_sorted R es) →
      at < length es → (get_or es at d).0 ≡ k → set es at (k, v) ≡ put R k v es
  put_at [] k v at d s lt e = absurd (omega arith)
  put_at (e ∷ es) k v zero d s lt is = rw (is, tied_itself o k) refl
  put_at (e ∷ es) k v (suc at) d s lt is =
      rw (above_first e es k at d s (omega arith) is)
      (ap (λ t. e ∷ t) (put_at es k v at d (second_so _ _ s) (omega arith) is))

  -- no key is the one for which there is a gap
  pub find_in_gap : (es : List (K × X)) (k : K) (at : ℕ) →
      ((i : ℕ) (d : K × X) → i < at → R (get_or es i d).0 k ≡ Less) →
      ((i : ℕ) (d : K × X) → at ≤ i → i < length es → R (get_or es i d).0 k ≡ Greater) →
      find R k es ≡ None
  find_in_gap [] k at lower higher = refl
  find_in_gap (e ∷ es) k zero lower higher =
      rw (turned o e.0 k Greater (higher 0 e (omega arith) (omega arith)))
      (find_in_gap es k zero (λ i d lt. absurd (omega arith))
      (λ i d le lt. higher (suc i) d (omega arith) (omega arith)))
  find_in_gap (e ∷ es) k (suc at) lower higher =
      rw (turned o e.0 k Less (lower 0 e (omega arith)))
      (find_in_gap es k at (λ i d lt. lower (suc i) d (omega arith))
      (λ i d le lt. higher (suc i) d (omega arith) (omega arith)))

  -- a new pair in the gap for its key
  pub put_in_gap : (es : List (K × X)) (k : K) (v : X) (at : ℕ) →
      ((i : ℕ) (d : K × X) → i < at → R (get_or es i d).0 k ≡ Less) →
      ((i : ℕ) (d : K × X) → at ≤ i → i < length es → R (get_or es i d).0 k ≡ Greater) →
      at ≤ length es → insert es at (k, v) ≡ put R k v es
  put_in_gap [] k v zero lower higher le = refl
  put_in_gap [] k v (suc at) lower higher le = absurd (omega arith)
  put_in_gap (e ∷ es) k v zero lower higher le =
      rw (turned o e.0 k Greater (higher 0 e (omega arith) (omega arith))) refl
  put_in_gap (e ∷ es) k v (suc at) lower higher le =
      rw (turned o e.0 k Less (lower 0 e (omega arith)))
      (ap (λ t. e ∷ t) (put_in_gap es k v at (λ i d lt. lower (suc i) d (omega arith))
      (λ i d le lt. higher (suc i) d (omega arith) (omega arith)) (omega arith)))

  all_other : (k : K) (es : List (K × X)) → T (below_all R k es) → es ≡ where_key R (is_other R k) es
  all_other k [] h = refl
  all_other k (e ∷ es) h =
      let below : R k e.0 ≡ Less = less_so _ (first_so _ _ h) in
      rw below (ap (λ t. e ∷ t) (all_other k es (second_so _ _ h)))

  -- without the pair at the index of the key
  pub remove_at : (es : List (K × X)) (k : K) (at : ℕ) (d : K × X) → T (is_sorted R es) → at < length es →
      (get_or es at d).0 ≡ k → remove es at ≡ where_key R (is_other R k) es
  remove_at [] k at d s lt e = absurd (omega arith)
  remove_at (e ∷ es) k zero d s lt is =
      let same : R k e.0 ≡ Equal = rw is (tied_itself o k) in
      rw same (all_other k es (subst (λ y. T (below_all R y es)) is (first_so _ _ s)))
  remove_at (e ∷ es) k (suc at) d s lt is =
      rw (above_first e es k at d s (omega arith) is)
      (ap (λ t. e ∷ t) (remove_at es k at d (second_so _ _ s) (omega arith) is))

  -- in order, no key is lower than the one before it
  pub next_is_higher : (es : List (K × X)) (at : ℕ) (d : K × X) → T (is_sorted R es) → suc at < length es →
      is_lt (R (get_or es (suc at) d).0 (get_or es at d).0) ≡ false
  next_is_higher [] at d s lt = absurd (omega arith)
  next_is_higher (e ∷ es) zero d s lt =
      ap is_lt (turned o e.0 _ Less (below_at e.0 es 0 d (first_so _ _ s) (omega arith)))
  next_is_higher (e ∷ es) (suc at) d s lt = next_is_higher es at d (second_so _ _ s) (omega arith)
