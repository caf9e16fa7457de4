-- What a binary search finds among the entries.
use Rattle.std.proofs.Common.{◌≡◌, ℕ, suc, ◌<◌, ◌≤◌, List, [], ◌∷◌, length, get_or, set, take, drop, ap₂, ◌++◌, Result}
use Rattle.std.proofs.Common.{Ok, Err, IfOk, IfErr, refl, sym, ap, ◌∙◌, add-one, arith, string_bytes}
use Rattle.std.specs.declared.cmp.Ordering.TheVariants.{Equal}
use Rattle.std.specs.Cmp.Lexicographic.{slice_cmp, nat_list_cmp_total}
use Rattle.std.specs.FinMap.{slice_cmp-IsAntisymmetric, nat_cmp-IsAntisymmetric}
use Rattle.std.specs.Ordering.{nat_cmp, ordering_index}
use Rattle.std.specs.List.{insert, remove, AllZip}
use Rattle.std.specs.List.Sorted.{IsSearchInRange, IsBinarySearchResult, IsNonDecreasingBy}
use Rattle.std.proofs.lemmas.List.{get_or_default, length-map, map-set, map-append, take-map, drop-map}
use Rattle.std.proofs.Math.ListN.{get_or-map}
use Rattle.std.proofs.lemmas.List.Sorted.{searchable_from_sorted}
use Rattle.scenario_core.specs.declared.entries.Entry.{Entry}
use Rattle.scenario_core.specs.Inner.Entries.{Pair, pairs_of, AreInOrder, IsAt, IsGapFor}
use Rattle.scenario_core.proofs.OrderedPairs.{next_is_higher}

abbrev pub pair_of : Entry → Pair
pair_of e = (string_bytes e.name, string_bytes e.state)

some_entry : (entries : List Entry) (P : Type 0) → 0 < length entries → (Entry → P) → P
some_entry [] P lt f = absurd (omega arith)
some_entry (e ∷ entries) P lt f = f e

length_pairs : (entries : List Entry) → length (pairs_of entries) ≡ length entries
length_pairs entries = length-map entries pair_of

-- the pair at an index is that of the entry there
pub pair_at : (entries : List Entry) (at : ℕ) (e : Entry) (d : Pair) → at < length entries →
    get_or (pairs_of entries) at d ≡ pair_of (get_or entries at e)
pair_at entries at e d lt =
    get_or_default (pairs_of entries) at d (pair_of e) (rw length_pairs lt) ∙ get_or-map pair_of entries at e

module _ (entries : List Entry) (name : List ℕ) (in_order : AreInOrder (pairs_of entries)) where
  comparisons_rise : IsNonDecreasingBy (λ e. ordering_index (slice_cmp nat_cmp (string_bytes e.name) name)) entries
  comparisons_rise =
      searchable_from_sorted nat_list_cmp_total (λ (e : Entry). string_bytes e.name) entries name (λ i e low lt.
      let below : suc i < length (pairs_of entries) = omega (arith, length_pairs entries) in
      let next = next_is_higher nat_list_cmp_total (pairs_of entries) i (pair_of e) in_order below in
      rw add-one (rw (get_or-map pair_of entries i e, get_or-map pair_of entries (suc i) e) at next))

  found : (at : ℕ) → at < length entries →
      ((e : Entry) → slice_cmp nat_cmp (string_bytes (get_or entries at e).name) name ≡ Equal) →
      IsAt (pairs_of entries) name at
  found at lt equal = record {
    in_range = rw length_pairs lt;
    has_name = λ d. some_entry entries _ (omega arith) (λ e. rw (pair_at entries at e d lt)
        (slice_cmp-IsAntisymmetric nat_cmp-IsAntisymmetric _ _ (equal e)));
  }

  absent : (at : ℕ) → at ≤ length entries →
      IsBinarySearchResult (λ (e : Entry). slice_cmp nat_cmp (string_bytes e.name) name) entries (Err at) →
      IsGapFor (pairs_of entries) name at
  absent at le parted =
      let sides = parted comparisons_rise in
      record {
        in_range = rw length_pairs le;
        lower = λ i d lt. let below : i < length entries = omega arith in
            some_entry entries _ (omega arith) (λ e. rw (pair_at entries i e d below) (sides.0 i e (omega arith) lt));
        higher = λ i d low lt. let below : i < length entries = omega (arith, length_pairs entries) in
            some_entry entries _ (omega arith) (λ e. rw (pair_at entries i e d below) (sides.1 i e low below));
      }

  pub searched : (r : Result ℕ ℕ) → IsSearchInRange r (length entries) →
      IsBinarySearchResult (λ (e : Entry). slice_cmp nat_cmp (string_bytes e.name) name) entries r →
      record { found : IfOk r (IsAt (pairs_of entries) name); absent : IfErr r (IsGapFor (pairs_of entries) name) }
  searched (Ok at) in_range equal = record { found = found at in_range equal; absent = tt }
  searched (Err at) in_range parted = record { found = tt; absent = absent at in_range parted }

-- the pairs of edited entries are edited alike
pub pairs-set : (entries : List Entry) (at : ℕ) (e : Entry) →
    pairs_of (set entries at e) ≡ set (pairs_of entries) at (pair_of e)
pairs-set entries at e = map-set pair_of entries at e

pub pairs-insert : (entries : List Entry) (at : ℕ) (e : Entry) →
    pairs_of (insert entries at e) ≡ insert (pairs_of entries) at (pair_of e)
pairs-insert entries at e =
    map-append pair_of (take at entries) (e ∷ drop at entries)
    ∙ ap₂ (λ xs ys. xs ++ pair_of e ∷ ys) (sym (take-map pair_of at entries)) (sym (drop-map pair_of at entries))

pub pairs-remove : (entries : List Entry) (at : ℕ) → pairs_of (remove entries at) ≡ remove (pairs_of entries) at
pairs-remove entries at =
    map-append pair_of (take at entries) (drop (suc at) entries)
    ∙ ap₂ (λ xs ys. xs ++ ys) (sym (take-map pair_of at entries)) (sym (drop-map pair_of (suc at) entries))

-- the entry that was read at the index of the name has that name
pub name_at : (entries : List Entry) (name : List ℕ) (at : ℕ) (e : Entry) → IsAt (pairs_of entries) name at →
    e ≡ get_or entries at e → string_bytes e.name ≡ name
name_at entries name at e is_at read =
    ap (λ (x : Entry). string_bytes x.name) read
    ∙ ap (λ (p : Pair). p.0) (sym (get_or-map pair_of entries at e)) ∙ is_at.has_name (pair_of e)

-- and its state is the one of the pair there
pub state_read : (entries : List Entry) (at : ℕ) (e : Entry) → e ≡ get_or entries at e →
    (get_or (pairs_of entries) at (pair_of e)).1 ≡ string_bytes e.state
state_read entries at e read =
    ap (λ (p : Pair). p.1) (get_or-map pair_of entries at e) ∙ ap (λ (x : Entry). string_bytes x.state) (sym read)

-- the copy has the same texts
abbrev IsCopy : Entry → Entry → Type 0
IsCopy e copy = (string_bytes copy.name ≡ string_bytes e.name) × (string_bytes copy.state ≡ string_bytes e.state)

-- a copy of the entries has the same pairs
pub pairs_of_clone : (entries copy : List Entry) → AllZip (λ (x y : Entry). IsCopy x y) entries copy →
    pairs_of copy ≡ pairs_of entries
pairs_of_clone [] [] h = refl
pairs_of_clone [] (f ∷ copy) h = absurd h
pairs_of_clone (e ∷ entries) [] h = absurd h
pairs_of_clone (e ∷ entries) (f ∷ copy) h =
    ap₂ (λ p ps. p ∷ ps) (λ i. (h.0.0 i, h.0.1 i)) (pairs_of_clone entries copy h.1)
