-- Lists of values, item by item.
use Rattle.std.proofs.Common.{◌≡◌, ℕ, suc, ◌≤◌, ◌&&◌, ◌||◌, ◌⊎◌, inl, inr, not, Bool, true}
use Rattle.std.proofs.Common.{false, nat_eq, List, [], ◌∷◌, length, drop, None, Some, refl, sym}
use Rattle.std.proofs.Common.{ap, ◌∙◌, arith, IfOk, Result, Ok, Err}
use Rattle.std.specs.declared.alloc.AllocError.{AllocError}
use Rattle.std.proofs.lemmas.Bool.{eq-eqb}
use Rattle.std.proofs.lemmas.Bool.Decides.{nat_tests}
use Rattle.std.proofs.lemmas.List.{drop_all}
use Rattle.std.proofs.Math.Bool.{and-false, or-true}
use Rattle.data_tree.specs.Parts.{trees_of}
use Rattle.data_tree.proofs.Views.{suc_is_not_zero}
use Rattle.data_tree.specs.Tree.{list, fields, Items, view, items_view, members_view}
use Rattle.data_tree.specs.declared.data.Data.{Data}
use Rattle.json_match.specs.Inner.Walk.{is_equal, are_equal, each_takes_one, are_equal_in_any_order, have_equal}
use Rattle.json_match.specs.Inner.Walk.{is_empty}
use Rattle.json_match.specs.Matching.{without_first, have_one_length, is_something}
use Rattle.json_match.specs.declared.compare.Flags.{Flags}

-- the items that come first decide together with the rest
heads : (f : Flags) (es ts later others : List Data) (e t : Data) → es ≡ e ∷ later → ts ≡ t ∷ others
    → are_equal f (items_view es) (items_view ts)
    ≡ (is_equal f (view e) (view t) && are_equal f (items_view later) (items_view others))
heads f es ts later others e t he ht = λ i. are_equal f (items_view (he i)) (items_view (ht i))

pub equal_heads : (f : Flags) (es ts later others : List Data) (e t : Data) → es ≡ e ∷ later
    → ts ≡ t ∷ others → true ≡ is_equal f (view e) (view t)
    → are_equal f (items_view es) (items_view ts) ≡ are_equal f (items_view later) (items_view others)
equal_heads f es ts later others e t he ht same =
    heads f es ts later others e t he ht
    ∙ ap (λ b. b && are_equal f (items_view later) (items_view others)) (sym same)

pub unequal_heads : (f : Flags) (es ts later others : List Data) (e t : Data) → es ≡ e ∷ later
    → ts ≡ t ∷ others
    → false ≡ is_equal f (view e) (view t) → are_equal f (items_view es) (items_view ts) ≡ false
unequal_heads f es ts later others e t he ht differ =
    heads f es ts later others e t he ht
    ∙ ap (λ b. b && are_equal f (items_view later) (items_view others)) (sym differ)

pub unequal_lengths : (f : Flags) (es ts : List Data) → (length es ≡ length ts → ⊥)
    → are_equal f (items_view es) (items_view ts) ≡ false
unequal_lengths f [] [] differ = absurd (differ refl)
unequal_lengths f [] (t ∷ ts) differ = refl
unequal_lengths f (e ∷ es) [] differ = refl
unequal_lengths f (e ∷ es) (t ∷ ts) differ =
    ap (λ b. is_equal f (view e) (view t) && b) (unequal_lengths f es ts (λ same. differ (ap suc same)))
    ∙ and-false (is_equal f (view e) (view t))

pub length-items_view : (xs : List Data) → length (trees_of (items_view xs)) ≡ length xs
length-items_view [] = refl
length-items_view (x ∷ xs) = ap suc (length-items_view xs)

pub not_true : (b : Bool) → not b ≡ true → b ≡ false
not_true false h = refl
not_true true h = sym h

pub not_false : (b : Bool) → not b ≡ false → b ≡ true
not_false true h = refl
not_false false h = sym h

-- ---- in any order

one_length : (es ts : List Data) → length es ≡ length ts
    → have_one_length (items_view es) (items_view ts) ≡ true
one_length es ts same =
    eq-eqb (length (trees_of (items_view es))) (length (trees_of (items_view ts)))
    (length-items_view es ∙ same ∙ sym (length-items_view ts))

pub other_lengths : (f : Flags) (es ts : List Data) → f.ignore_extra_elements ≡ false
    → (length es ≡ length ts → ⊥) → are_equal_in_any_order f (items_view es) (items_view ts) ≡ false
other_lengths f es ts none differ =
    ap (λ b. (b || have_one_length (items_view es) (items_view ts))
    && each_takes_one f (items_view es) (items_view ts)) none
    ∙ ap (λ b. b && each_takes_one f (items_view es) (items_view ts)) unlike
  where
    unlike : have_one_length (items_view es) (items_view ts) ≡ false
    unlike = rw (length-items_view es, length-items_view ts) (grind (arith, nat_tests, differ))

pub as_they_take : (f : Flags) (es ts : List Data) (b : Bool)
    → (f.ignore_extra_elements ≡ true) ⊎ (length es ≡ length ts)
    → each_takes_one f (items_view es) (items_view ts) ≡ b
    → are_equal_in_any_order f (items_view es) (items_view ts) ≡ b
as_they_take f es ts b (inl extra) takes =
    ap (λ c. (c || have_one_length (items_view es) (items_view ts))
    && each_takes_one f (items_view es) (items_view ts)) extra ∙ takes
as_they_take f es ts b (inr same) takes =
    ap (λ c. (f.ignore_extra_elements || c)
    && each_takes_one f (items_view es) (items_view ts)) (one_length es ts same)
    ∙ ap (λ c. c && each_takes_one f (items_view es) (items_view ts)) (or-true f.ignore_extra_elements) ∙ takes

pub if_they_take : (f : Flags) (es ts : List Data) (r : Result Bool AllocError)
    → (f.ignore_extra_elements ≡ true) ⊎ (length es ≡ length ts)
    → IfOk r (λ answer. answer ≡ each_takes_one f (items_view es) (items_view ts))
    → IfOk r (λ answer. answer ≡ are_equal_in_any_order f (items_view es) (items_view ts))
if_they_take f es ts (Err error) fit is = tt
if_they_take f es ts (Ok answer) fit is = sym (as_they_take f es ts answer fit (sym is))

pub no_partner : (f : Flags) (es later : List Data) (e : Data) (left : Items) → es ≡ e ∷ later
    → without_first (is_equal f (view e)) left ≡ None → each_takes_one f (items_view es) left ≡ false
no_partner f es later e left is none = rw (is, none) refl

pub partner : (f : Flags) (es later : List Data) (e : Data) (left rest : Items) → es ≡ e ∷ later
    → without_first (is_equal f (view e)) left ≡ Some rest
    → each_takes_one f (items_view es) left ≡ each_takes_one f (items_view later) rest
partner f es later e left rest is some = rw (is, some) refl

pub all_taken : (f : Flags) (es : List Data) (n : ℕ) (left : Items) → length es ≤ n
    → each_takes_one f (items_view (drop n es)) left ≡ true
all_taken f es n left le = rw (drop_all n es le) refl

-- ---- empty lists

pub something_list : (n : ℕ) (xs : List Data) → n ≡ length xs
    → not (nat_eq n 0) ≡ is_something (list (items_view xs))
something_list n [] e = rw e refl
something_list n (x ∷ xs) e = rw e (ap not (suc_is_not_zero (length xs)))

pub something_fields : (n : ℕ) (xs : List (List ℕ × Data)) → n ≡ length xs
    → not (nat_eq n 0) ≡ is_something (fields (members_view xs))
something_fields n [] e = rw e refl
something_fields n (x ∷ xs) e = rw e (ap not (suc_is_not_zero (length xs)))

-- where all expected members are found and no more are allowed, none is left
pub none_is_left : (f : Flags) (es rest : List (List ℕ × Data)) (n : ℕ) → length es ≤ n
    → f.ignore_extra_elements ≡ false
    → nat_eq (length rest) 0 ≡ have_equal f (members_view (drop n es)) (members_view rest)
none_is_left f es rest n le none = rw (drop_all n es le, none) (empty rest)
  where
    empty : (xs : List (List ℕ × Data)) → nat_eq (length xs) 0 ≡ is_empty (members_view xs)
    empty [] = refl
    empty (x ∷ xs) = suc_is_not_zero (length xs)
