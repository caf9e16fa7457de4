-- A binary search among names that ascend finds what a search from the front finds.
use Rattle.std.proofs.Common.{◌≡◌, ℕ, zero, suc, ◌<◌, false, true, List, [], ◌∷◌, length, get_or}
use Rattle.std.proofs.Common.{bytes_eq, add-one, Err, refl, sym, ap, ◌∙◌, subst, inl, inr, arith}
use Rattle.std.proofs.lemmas.Bool.{cases_lt}
use Rattle.std.proofs.lemmas.Cmp.{nat_list_cmp_total}
use Rattle.std.proofs.lemmas.Map.Lookups.{exact_bytes}
use Rattle.std.proofs.lemmas.Map.Text.{is_eq-slice_cmp}
use Rattle.std.proofs.lemmas.List.Sorted.{searchable_from_sorted}
use Rattle.std.specs.Cmp.Lexicographic.{slice_cmp}
use Rattle.std.specs.List.Sorted.{IsBinarySearchResult, IsSortedBy}
use Rattle.std.specs.Ordering.{nat_cmp, is_eq, is_lt, ordering_reverse}
use Rattle.std.specs.declared.cmp.Ordering.{Ordering}
use Rattle.std.specs.declared.cmp.Ordering.TheVariants.{Less, Equal}
use Rattle.data_tree.specs.Tree.{nothing, view, members_view}
use Rattle.data_tree.specs.Parts.{names_of}
use Rattle.data_tree.specs.LookUp.{under}
use Rattle.data_tree.specs.WellFormed.{IsAscending}
use Rattle.data_tree.proofs.Views.{Field}

abbrev pub order : List ℕ → List ℕ → Ordering
order = slice_cmp nat_cmp

abbrev pub name_of : Field → List ℕ
name_of f = f.0

abbrev pub NamesAscend : List Field → Type 0
NamesAscend fs = IsAscending (names_of (members_view fs))

same_name : (k name : List ℕ) → order k name ≡ Equal → bytes_eq k name ≡ true
same_name k name e = sym (is_eq-slice_cmp k name) ∙ ap is_eq e

other_name : (k name : List ℕ) → is_eq (order k name) ≡ false → bytes_eq k name ≡ false
other_name k name e = sym (is_eq-slice_cmp k name) ∙ e

-- a name before one that ascends from it comes before all of them
below_later : (k : List ℕ) (fs : List Field) (i : ℕ) (d : Field) → IsAscending (k ∷ names_of (members_view fs))
    → i < length fs → order k (name_of (get_or fs i d)) ≡ Less
below_later k [] i d up within = absurd (omega arith)
below_later k (f ∷ fs) zero d up within = up.0
below_later k (f ∷ fs) (suc i) d up within =
    nat_list_cmp_total.trans k (name_of f) (name_of (get_or fs i d)) up.0
    (below_later (name_of f) fs i d up.1 (omega arith))

tail_ascends : (f : Field) (fs : List Field) → NamesAscend (f ∷ fs) → NamesAscend fs
tail_ascends f [] up = tt
tail_ascends f (g ∷ fs) up = up.1

-- the field at which the search ends is the first of that name
pub under_found : (name : List ℕ) (fs : List Field) (i : ℕ) (d : Field) → NamesAscend fs → i < length fs
    → order (name_of (get_or fs i d)) name ≡ Equal → under name (members_view fs) ≡ view (get_or fs i d).1
under_found name [] i d up within e = absurd (omega arith)
under_found name (f ∷ fs) zero d up within e = rw (same_name (name_of f) name e) refl
under_found name (f ∷ fs) (suc i) d up within e =
    let here : order (name_of f) (name_of (get_or fs i d)) ≡ Less =
    below_later (name_of f) fs i d up (omega arith) in
    let before : order (name_of f) name ≡ Less =
    subst (λ n. order (name_of f) n ≡ Less) (exact_bytes _ _ e) here in
    rw (other_name (name_of f) name (ap is_eq before))
    (under_found name fs i d (tail_ascends f fs up) (omega arith) e)

-- where no field has the name there is nothing
under_missing : (name : List ℕ) (fs : List Field)
    → ((i : ℕ) (d : Field) → i < length fs → is_eq (order (name_of (get_or fs i d)) name) ≡ false)
    → under name (members_view fs) ≡ nothing
under_missing name [] other = refl
under_missing name (f ∷ fs) other =
    rw (other_name (name_of f) name (other 0 f (omega arith)))
    (under_missing name fs (λ i d within. other (suc i) d (omega arith)))

next_is_above : (fs : List Field) (k : ℕ) (d : Field) → NamesAscend fs → suc k < length fs
    → is_lt (order (name_of (get_or fs (suc k) d)) (name_of (get_or fs k d))) ≡ false
next_is_above [] k d up high = absurd (omega arith)
next_is_above (f ∷ []) k d up high = absurd (omega arith)
next_is_above (f ∷ g ∷ fs) zero d up high =
    ap is_lt (nat_list_cmp_total.antisymm (name_of g) (name_of f) ∙ ap ordering_reverse up.0)
next_is_above (f ∷ g ∷ fs) (suc k) d up high = next_is_above (g ∷ fs) k d up.1 (omega arith)

sorted : (fs : List Field) → NamesAscend fs → IsSortedBy (λ a b. is_lt (order (name_of a) (name_of b))) fs
sorted fs up k d low high = rw add-one (next_is_above fs k d up (omega arith))

-- where the search ends between the names below and those above, no field has the name
pub under_absent : (name : List ℕ) (fs : List Field) (i : ℕ) → NamesAscend fs
    → IsBinarySearchResult (λ f. order (name_of f) name) fs (Err i) → under name (members_view fs) ≡ nothing
under_absent name fs i up parted =
    let parts = parted (searchable_from_sorted nat_list_cmp_total name_of fs name (sorted fs up)) in
    under_missing name fs (λ k d inside. elim (cases_lt k i) [
      | inl before ↦ ap is_eq (parts.0 k d (omega arith) before)
      | inr after ↦ ap is_eq (parts.1 k d after inside)
    ])
