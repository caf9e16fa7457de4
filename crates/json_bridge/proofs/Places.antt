-- Where a name is among members whose names ascend.
use Rattle.std.proofs.Common.{◌≡◌, ◌<◌, ◌+◌, ℕ, zero, suc, List, [], ◌∷◌, ◌++◌, length}
use Rattle.std.proofs.Common.{Greater, Less, Equal, nat_cmp, refl, ap, arith, slice_index_or, slice_set}
use Rattle.std.specs.Cmp.Lexicographic.{slice_cmp}
use Rattle.std.specs.List.{insert}
use Rattle.data_tree.specs.Tree.{no_members, member, view, members_view}
use Rattle.data_tree.specs.declared.data.Data.{Data}
use Rattle.std.proofs.lemmas.Cmp.{nat_list_cmp_total}
use Rattle.data_tree.specs.Parts.{names_of}
use Rattle.data_tree.specs.WellFormed.{IsAscending}
use Rattle.json_bridge.specs.Inner.Direct.{put, IsFoundAt, BelongsAt, EndBefore}
use Rattle.json_bridge.proofs.TreeSteps.{greater_of}

-- the names of that many members are before k
abbrev pub ArePassed : List ℕ → ℕ → List (List ℕ × Data) → Type 0
ArePassed k zero ms = Unit {0}
ArePassed k (suc n) [] = ⊥
ArePassed k (suc n) (m ∷ ms) = (slice_cmp nat_cmp k m.0 ≡ Greater) × ArePassed k n ms

abbrev pub Field : Type 0
Field = List ℕ × Data

pub passed_more
    : (k : List ℕ) (n : ℕ) (ms : List Field) (m : Field) → ArePassed k n ms → n < length ms
    → slice_cmp nat_cmp k (slice_index_or ms n m).0 ≡ Greater → ArePassed k (suc n) ms
passed_more k n [] m passed within is = absurd (omega (arith, within))
passed_more k zero (e ∷ ms) m passed within is = (is, tt)
passed_more k (suc n) (e ∷ ms) m passed within is =
    (passed.0, passed_more k n ms m passed.1 (omega (arith, within)) is)

pub found_after
    : (k : List ℕ) (n : ℕ) (ms : List Field) (m : Field) → ArePassed k n ms → n < length ms
    → slice_cmp nat_cmp k (slice_index_or ms n m).0 ≡ Equal → IsFoundAt k n ms
found_after k n [] m passed within is = absurd (omega (arith, within))
found_after k zero (e ∷ ms) m passed within is = is
found_after k (suc n) (e ∷ ms) m passed within is =
    (passed.0, found_after k n ms m passed.1 (omega (arith, within)) is)

pub belongs_after
    : (k : List ℕ) (n : ℕ) (ms : List Field) (m : Field) → ArePassed k n ms → n < length ms
    → slice_cmp nat_cmp k (slice_index_or ms n m).0 ≡ Less → BelongsAt k n ms
belongs_after k n [] m passed within is = absurd (omega (arith, within))
belongs_after k zero (e ∷ ms) m passed within is = is
belongs_after k (suc n) (e ∷ ms) m passed within is =
    (passed.0, belongs_after k n ms m passed.1 (omega (arith, within)) is)

pub belongs_last : (k : List ℕ) (n : ℕ) (ms : List Field) → ArePassed k n ms → n ≡ length ms → BelongsAt k n ms
belongs_last k zero [] passed all = tt
belongs_last k (suc n) [] passed all = absurd passed
belongs_last k zero (e ∷ ms) passed all = absurd (omega (arith, all))
belongs_last k (suc n) (e ∷ ms) passed all = (passed.0, belongs_last k n ms passed.1 (omega (arith, all)))

pub put_inserted
    : (name : List ℕ) (d : Data) (n : ℕ) (ms : List Field) → BelongsAt name n ms
    → members_view (insert ms n (name, d)) ≡ put name (view d) (members_view ms)
put_inserted name d zero [] at = refl
put_inserted name d zero (e ∷ ms) at = rw at refl
put_inserted name d (suc n) [] at = absurd at
put_inserted name d (suc n) (e ∷ ms) at =
    rw at.0 (ap (member e.0 (view e.1)) (put_inserted name d n ms at.1))

pub put_last
    : (name : List ℕ) (d : Data) (ms : List Field) → BelongsAt name (length ms) ms
    → members_view (ms ++ (name, d) ∷ []) ≡ put name (view d) (members_view ms)
put_last name d [] at = refl
put_last name d (e ∷ ms) at = rw at.0 (ap (member e.0 (view e.1)) (put_last name d ms at.1))

pub put_changed
    : (k : List ℕ) (d : Data) (n : ℕ) (ms : List Field) (m : Field) → IsFoundAt k n ms
    → members_view (slice_set ms n ((slice_index_or ms n m).0, d)) ≡ put k (view d) (members_view ms)
put_changed k d n [] m at = by n at
  where
    by : (n : ℕ) → IsFoundAt k n [] → members_view (slice_set [] n ((slice_index_or [] n m).0, d)) ≡ put k (view d) no_members
    by zero at = absurd at
    by (suc n) at = absurd at
put_changed k d zero (e ∷ ms) m at = rw at refl
put_changed k d (suc n) (e ∷ ms) m at =
    rw at.0 (ap (member e.0 (view e.1)) (put_changed k d n ms m at.1))

pub found_within : (k : List ℕ) (n : ℕ) (ms : List Field) → IsFoundAt k n ms → n < length ms
found_within k zero [] at = absurd at
found_within k (suc n) [] at = absurd at
found_within k zero (e ∷ ms) at = omega arith
found_within k (suc n) (e ∷ ms) at = omega (arith, found_within k n ms at.1)

pub belongs_within : (k : List ℕ) (n : ℕ) (ms : List Field) → BelongsAt k n ms → n < length ms + 1
belongs_within k zero [] at = omega arith
belongs_within k (suc n) [] at = absurd at
belongs_within k zero (e ∷ ms) at = omega arith
belongs_within k (suc n) (e ∷ ms) at = omega (arith, belongs_within k n ms at.1)

-- ---- after all others

below : (k : List ℕ) (m : Field) (ms : List Field) → IsAscending (names_of (members_view (m ∷ ms)))
    → EndBefore (m ∷ ms) k → slice_cmp nat_cmp m.0 k ≡ Less
below k m [] up ends = ends
below k m (n ∷ ms) up ends =
    nat_list_cmp_total.trans m.0 n.0 k up.0 (below k n ms up.1 ends)

pub belongs_at_end : (k : List ℕ) (ms : List Field) → IsAscending (names_of (members_view ms)) → EndBefore ms k
    → BelongsAt k (length ms) ms
belongs_at_end k [] up ends = tt
belongs_at_end k (m ∷ []) up ends = (greater_of m.0 k ends, tt)
belongs_at_end k (m ∷ n ∷ ms) up ends = (
  greater_of m.0 k (below k m (n ∷ ms) up ends),
  belongs_at_end k (n ∷ ms) up.1 ends,
)

pub end_before : (ms : List Field) (n : ℕ) (any : Field) (k : List ℕ) → n + 1 ≡ length ms
    → slice_cmp nat_cmp (slice_index_or ms n any).0 k ≡ Less → EndBefore ms k
end_before [] n any k last less = tt
end_before (m ∷ []) zero any k last less = less
end_before (m ∷ []) (suc n) any k last less = absurd (omega (arith, last))
end_before (m ∷ next ∷ ms) zero any k last less = absurd (omega (arith, last))
end_before (m ∷ next ∷ ms) (suc n) any k last less = end_before (next ∷ ms) n any k (omega (arith, last)) less
