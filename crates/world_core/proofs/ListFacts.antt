-- Lists whose items all have a property, and items of a list.
use Rattle.std.proofs.Common.{◌≡◌, ◌⊎◌, zero, suc, List, [], ◌∷◌, ◌++◌, All, Contains, refl, ap}
use Rattle.std.proofs.Common.{inl, inr, arith, subst, append_assoc}

pub all_first : {X : Type 0} (P : X → Type 0) (x : X) (xs : List X) → All P (x ∷ xs) → P x
all_first P x xs all = all 0 x (omega arith)

pub all_rest : {X : Type 0} (P : X → Type 0) (x : X) (xs : List X) → All P (x ∷ xs) → All P xs
all_rest P x xs all = λ k d lt. all (suc k) d (omega (arith, lt))

pub all_none : {X : Type 0} (P : X → Type 0) → All P []
all_none P = λ k d lt. absurd (omega (arith, lt))

pub all_more : {X : Type 0} (P : X → Type 0) (x : X) (xs : List X) → P x → All P xs → All P (x ∷ xs)
all_more P x xs first rest zero d lt = first
all_more P x xs first rest (suc k) d lt = rest k d (omega (arith, lt))

-- ---- items

abbrev pub IsItem : {X : Type 0} → List X → X → Type 0
IsItem [] x = ⊥
IsItem (y ∷ ys) x = (y ≡ x) ⊎ IsItem ys x

pub item_of : {X : Type 0} (xs : List X) (x : X) → Contains xs x → IsItem xs x
item_of [] x (k, lt, is) = absurd (omega (arith, lt))
item_of (y ∷ ys) x (zero, lt, is) = inl is
item_of (y ∷ ys) x (suc k, lt, is) = inr (item_of ys x (k, omega (arith, lt), is))

pub contains_item : {X : Type 0} (xs : List X) (x : X) → IsItem xs x → Contains xs x
contains_item [] x item = absurd item
contains_item (y ∷ ys) x (inl is) = (0, omega arith, is)
contains_item (y ∷ ys) x (inr item) =
    let there = contains_item ys x item in (suc there.0, omega (arith, there.1), there.2)

pub all_item : {X : Type 0} (P : X → Type 0) (xs : List X) (x : X) → All P xs → IsItem xs x → P x
all_item P [] x all item = absurd item
all_item P (y ∷ ys) x all (inl is) = subst P is (all_first P y ys all)
all_item P (y ∷ ys) x all (inr item) = all_item P ys x (all_rest P y ys all) item

pub item_between : {X : Type 0} (before : List X) (x : X) (after : List X) → IsItem (before ++ x ∷ after) x
item_between [] x after = inl refl
item_between (y ∷ before) x after = inr (item_between before x after)

pub item_after : {X : Type 0} (before : List X) (after : List X) (x : X) → IsItem after x
    → IsItem (before ++ after) x
item_after [] after x item = item
item_after (y ∷ before) after x item = inr (item_after before after x item)

-- one after the other
pub one_further : {X : Type 0} (before : List X) (x : X) (after : List X)
    → (before ++ x ∷ []) ++ after ≡ before ++ x ∷ after
one_further before x after = append_assoc before (x ∷ []) after

-- an item is between others
pub item_split : {X : Type 0} (xs : List X) (x : X) → IsItem xs x
    → (before : List X) × (after : List X) × (xs ≡ before ++ x ∷ after)
item_split [] x item = absurd item
item_split (y ∷ ys) x (inl is) = ([], ys, ap (λ z. z ∷ ys) is)
item_split (y ∷ ys) x (inr item) =
    let there = item_split ys x item in (y ∷ there.0, there.1, ap (λ l. y ∷ l) there.2)
