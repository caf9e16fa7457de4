-- The first item that passes a test, among those that aren't taken.
use Rattle.std.proofs.Common.{◌≡◌, ℕ, zero, suc, ◌+◌, ◌<◌, Bool, true, false, List, [], ◌∷◌}
use Rattle.std.proofs.Common.{length, set, Option, Some, None, option_map, MatchOption, replicate, if◌then◌else◌}
use Rattle.std.proofs.Common.{refl, sym, ap, subst, ◌∙◌, arith}
use Rattle.data_tree.specs.Parts.{trees_of}
use Rattle.data_tree.specs.Tree.{Tree, Items, no_items, item}
use Rattle.json_match.specs.Inner.Taken.{first_left}
use Rattle.json_match.specs.Matching.{without_first}

-- those that aren't taken
abbrev pub left_of : List Bool → Items → Items
left_of [] ts = ts
left_of (b ∷ taken) no_items = no_items
left_of (true ∷ taken) (item t ts) = left_of taken ts
left_of (false ∷ taken) (item t ts) = item t (left_of taken ts)

-- an item that is taken or doesn't pass is gone past
pub gone_past : (passes : Tree → Bool) (i : ℕ) (b : Bool) (t : Tree) (taken : List Bool) (ts : Items)
    → (b ≡ false → passes t ≡ false)
    → first_left passes i (b ∷ taken) (item t ts) ≡ first_left passes (i + 1) taken ts
gone_past passes i true t taken ts h = refl
gone_past passes i false t taken ts h =
    ap (λ c. if c then Some i else first_left passes (i + 1) taken ts) (h refl)

pub found_here : (passes : Tree → Bool) (i : ℕ) (t : Tree) (taken : List Bool) (ts : Items) → passes t ≡ true
    → first_left passes i (false ∷ taken) (item t ts) ≡ Some i
found_here passes i t taken ts h = ap (λ c. if c then Some i else first_left passes (i + 1) taken ts) h

-- what taking the item of that index does
abbrev Takes : (Tree → Bool) → ℕ → List Bool → Items → ℕ → Type 0
Takes passes n taken ts k =
    (j : ℕ) × (k ≡ n + j) × (j < length taken)
    × (without_first passes (left_of taken ts) ≡ Some (left_of (set taken j true) ts))

abbrev Tells : (Tree → Bool) → ℕ → List Bool → Items → Option ℕ → Type 0
Tells passes n taken ts found =
    MatchOption found (without_first passes (left_of taken ts) ≡ None) (Takes passes n taken ts)

past_taken : (passes : Tree → Bool) (n : ℕ) (t : Tree) (taken : List Bool) (ts : Items) (found : Option ℕ)
    → Tells passes (n + 1) taken ts found → Tells passes n (true ∷ taken) (item t ts) found
past_taken passes n t taken ts None h = h
past_taken passes n t taken ts (Some k) h = (suc h.0, omega (arith, h.1), omega (arith, h.2), h.3)

past_left : (passes : Tree → Bool) (n : ℕ) (t : Tree) (taken : List Bool) (ts : Items) (found : Option ℕ)
    → passes t ≡ false → Tells passes (n + 1) taken ts found
    → Tells passes n (false ∷ taken) (item t ts) found
past_left passes n t taken ts None fails h =
    ap (λ c. if c then Some (left_of taken ts)
    else option_map (item t) (without_first passes (left_of taken ts))) fails
    ∙ ap (option_map (item t)) h
past_left passes n t taken ts (Some k) fails h = (
  suc h.0,
  omega (arith, h.1),
  omega (arith, h.2),
  ap (λ c. if c then Some (left_of taken ts) else option_map (item t) (without_first passes (left_of taken ts))) fails
      ∙ ap (option_map (item t)) h.3,
)

by_test : (passes : Tree → Bool) (n : ℕ) (t : Tree) (taken : List Bool) (ts : Items) (c : Bool) → passes t ≡ c
    → Tells passes (n + 1) taken ts (first_left passes (n + 1) taken ts)
    → Tells passes n (false ∷ taken) (item t ts) (first_left passes n (false ∷ taken) (item t ts))
by_test passes n t taken ts true passed later =
    subst (Tells passes n (false ∷ taken) (item t ts)) (sym (found_here passes n t taken ts passed)) (
      zero,
      omega arith,
      omega arith,
      ap (λ c. if c then Some (left_of taken ts) else option_map (item t) (without_first passes (left_of taken ts)))
          passed,
    )
by_test passes n t taken ts false fails later =
    subst (Tells passes n (false ∷ taken) (item t ts)) (sym (gone_past passes n false t taken ts (λ e. fails)))
    (past_left passes n t taken ts (first_left passes (n + 1) taken ts) fails later)

takes_from : (passes : Tree → Bool) (n : ℕ) (taken : List Bool) (ts : Items)
    → length taken ≡ length (trees_of ts) → Tells passes n taken ts (first_left passes n taken ts)
takes_from passes n [] no_items same = refl
takes_from passes n [] (item t ts) same = absurd (omega (arith, same))
takes_from passes n (b ∷ taken) no_items same = absurd (omega (arith, same))
takes_from passes n (true ∷ taken) (item t ts) same =
    past_taken passes n t taken ts (first_left passes (n + 1) taken ts)
    (takes_from passes (n + 1) taken ts (omega (arith, same)))
takes_from passes n (false ∷ taken) (item t ts) same =
    by_test passes n t taken ts (passes t) refl (takes_from passes (n + 1) taken ts (omega (arith, same)))

-- the item of the index that is found is the one that goes
pub takes_first : (passes : Tree → Bool) (taken : List Bool) (ts : Items) (found : Option ℕ)
    → length taken ≡ length (trees_of ts) → found ≡ first_left passes 0 taken ts
    → MatchOption found (without_first passes (left_of taken ts) ≡ None)
    (λ k. (k < length taken) × (without_first passes (left_of taken ts) ≡ Some (left_of (set taken k true) ts)))
takes_first passes taken ts found same is =
    at_zero found (subst (Tells passes 0 taken ts) (sym is) (takes_from passes 0 taken ts same))
  where
    at_zero : (o : Option ℕ) → Tells passes 0 taken ts o
        → MatchOption o (without_first passes (left_of taken ts) ≡ None)
        (λ k. (k < length taken) × (without_first passes (left_of taken ts) ≡ Some (left_of (set taken k true) ts)))
    at_zero None h = h
    at_zero (Some k) h =
        let here : h.0 ≡ k = omega (arith, h.1) in
        (omega (arith, h.1, h.2), h.3 ∙ ap (λ j. Some (left_of (set taken j true) ts)) here)

-- where none is taken, all are left
pub none_taken : (n : ℕ) (ts : Items) → left_of (replicate n false) ts ≡ ts
none_taken zero ts = refl
none_taken (suc n) no_items = refl
none_taken (suc n) (item t ts) = ap (item t) (none_taken n ts)

-- none that is left passes
pub no_first : (passes : Tree → Bool) (taken : List Bool) (ts : Items) (found : Option ℕ)
    → length taken ≡ length (trees_of ts) → found ≡ first_left passes 0 taken ts → found ≡ None
    → without_first passes (left_of taken ts) ≡ None
no_first passes taken ts found same is none =
    let P : Option ℕ → Type 0 = λ o. MatchOption o (without_first passes (left_of taken ts) ≡ None)
    (λ k. (k < length taken) × (without_first passes (left_of taken ts) ≡ Some (left_of (set taken k true) ts))) in
    subst P none (takes_first passes taken ts found same is)

pub the_first : (passes : Tree → Bool) (taken : List Bool) (ts : Items) (found : Option ℕ) (k : ℕ)
    → length taken ≡ length (trees_of ts) → found ≡ first_left passes 0 taken ts → found ≡ Some k
    → (k < length taken) × (without_first passes (left_of taken ts) ≡ Some (left_of (set taken k true) ts))
the_first passes taken ts found k same is some =
    let P : Option ℕ → Type 0 = λ o. MatchOption o (without_first passes (left_of taken ts) ≡ None)
    (λ k. (k < length taken) × (without_first passes (left_of taken ts) ≡ Some (left_of (set taken k true) ts))) in
    subst P some (takes_first passes taken ts found same is)
