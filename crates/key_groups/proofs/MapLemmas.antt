-- What one more key changes in the maps and lists of `specs/Inner/Maps.antt`.
use Rattle.std.proofs.Common.{◌≡◌, ℕ, suc, ◌+◌, ◌<◌, ◌≤◌, Bool, true, false, cond, List, [], ◌∷◌, ◌++◌, length, get_or}
use Rattle.std.proofs.Common.{take, Bor, Option, None, Some, refl, sym, ap, ◌∙◌, ⊎_elim, arith}
use Rattle.std.specs.Prelude.{count_by, unwrap_or}
use Rattle.std.specs.Cmp.{IsEquivalence}
use Rattle.std.specs.List.{position_from}
use Rattle.std.specs.Option.{option_or}
use Rattle.std.specs.HashMap.{HashMap}
use Rattle.std.proofs.lemmas.Bool.{cases_Bool, cases_lt, cond-true, cond-false}
use Rattle.std.proofs.lemmas.List.{get_or_append_left, get_or_push}
use Rattle.std.proofs.lemmas.List.Sums.{sum_by_push}
use Rattle.key_groups.specs.Groups.{times}
use Rattle.key_groups.specs.Inner.Maps.{value_at, Counts, Numbers, PositionsBelow, PutsNew}

-- ---- options

first_or : (b : Bool) (n : ℕ) (r m t : Option ℕ) → m ≡ option_or r t
    → cond b (Some n) m ≡ option_or (cond b (Some n) r) t
first_or true n r m t e = refl
first_or false n r m t e = e

-- the first that passes, after one more at the end
position_from-push : {A : Type 0} (p : A → Bool) (n : ℕ) (xs : List A) (y : A)
    → position_from p n (xs ++ y ∷ []) ≡ option_or (position_from p n xs) (cond (p y) (Some (n + length xs)) None)
position_from-push p n [] y =
    let e : n ≡ n + 0 = omega arith in ap (λ v. cond (p y) (Some v) None) e
position_from-push p n (x ∷ xs) y =
    let e : n + 1 + length xs ≡ n + suc (length xs) = omega arith in
    first_or (p x) n (position_from p (n + 1) xs) (position_from p (n + 1) (xs ++ y ∷ []))
    (cond (p y) (Some (n + suc (length xs))) None)
    (position_from-push p (n + 1) xs y
    ∙ ap (λ v. option_or (position_from p (n + 1) xs) (cond (p y) (Some v) None)) e)

module _ {K : Type 0} (same : K → K → Bool) (laws : IsEquivalence same) where
  -- ---- equal keys

  alike : (k q o : K) → same k q ≡ true → same o k ≡ same o q
  alike k q o e = laws.symm o k ∙ laws.congr k q o e ∙ laws.symm q o

  times_alike : (k q : K) (keys : List K) → same k q ≡ true → times same k keys ≡ times same q keys
  times_alike k q keys e = λ i. count_by (λ o. alike k q o e i) keys

  -- ---- one more key

  pub Counts-push : {S : Type 0} (keys : List K) (m n : HashMap (Bor K) ℕ S) (k : K) (w : ℕ)
      → ((q : Bor K) → value_at same n q ≡ cond (same k q.now) (Some w) (value_at same m q))
      → w ≡ times same k keys + 1 → Counts same keys m → Counts same (keys ++ k ∷ []) n
  Counts-push keys m n k w puts counted before = λ q.
      let more : times same q.now (keys ++ k ∷ []) ≡ times same q.now keys + cond (same k q.now) 1 0 =
      sum_by_push (λ o. cond (same o q.now) 1 0) keys k in
      ⊎_elim
      (λ yes.
      ap (λ o. unwrap_or o 0) (puts q ∙ cond-true (same k q.now) (Some w) (value_at same m q) yes)
      ∙ counted ∙ ap (λ x. x + 1) (times_alike k q.now keys yes)
      ∙ sym (more ∙ ap (λ b. times same q.now keys + cond b 1 0) yes))
      (λ no.
      ap (λ o. unwrap_or o 0) (puts q ∙ cond-false (same k q.now) (Some w) (value_at same m q) no)
      ∙ before q
      ∙ (let e : times same q.now (keys ++ k ∷ []) ≡ times same q.now keys + 0 =
      more ∙ ap (λ b. times same q.now keys + cond b 1 0) no in omega arith))
      (cases_Bool (same k q.now))

  pub Numbers-push : {S : Type 0} (keys : List K) (m n : HashMap (Bor K) ℕ S) (k : K) (w : ℕ)
      → PutsNew same m n k w → w ≡ 1 + length keys → Numbers same keys m → Numbers same (keys ++ k ∷ []) n
  Numbers-push keys m n k w puts number before = λ q.
      puts q
      ∙ ap (λ o. option_or o (cond (same k q.now) (Some w) None)) (before q)
      ∙ ap (λ v. option_or (position_from (λ o. same o q.now) 1 keys) (cond (same k q.now) (Some v) None)) number
      ∙ sym (position_from-push (λ o. same o q.now) 1 keys k)

  pub PositionsBelow-push : (keys : List K) (n : ℕ) (ps : List ℕ) (w : ℕ) → length ps ≡ n
      → ((d : K) → w ≡ times same (get_or keys n d) (take n keys) + 1) → PositionsBelow same keys n ps
      → PositionsBelow same keys (n + 1) (ps ++ w ∷ [])
  PositionsBelow-push keys n ps w len here before = λ i d below.
      ⊎_elim
      (λ (earlier : i < n). get_or_append_left ps (w ∷ []) 0 i (omega arith) ∙ before i d earlier)
      (λ (last : n ≤ i).
      let e : n ≡ i = omega arith in
      get_or_push ps w 0 i (len ∙ e) ∙ here d ∙ ap (λ j. times same (get_or keys j d) (take j keys) + 1) e)
      (cases_lt i n)
