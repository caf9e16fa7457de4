-- What private clauses see of the entries that are kept.
use Rattle.std.specs.Prelude.{◌≡◌, ℕ, ◌<◌, ◌≤◌, List, length, map, string_bytes, slice_index_or, T}
use Rattle.std.specs.Ordering.{nat_cmp}
use Rattle.std.specs.Cmp.Lexicographic.{slice_cmp}
use Rattle.std.specs.FinMap as fin_map
use Rattle.std.specs.declared.cmp.Ordering.TheVariants.{Less, Greater}
use Rattle.scenario_core.specs.declared.entries.Entry.{Entry}

-- a name and a state
abbrev pub Pair : Type 0
Pair = List ℕ × List ℕ

abbrev pub pairs_of : List Entry → List Pair
pairs_of entries = map (λ e. (string_bytes e.name, string_bytes e.state)) entries

-- the names rise
abbrev pub AreInOrder : List Pair → Type 0
AreInOrder pairs = T (fin_map.is_sorted (slice_cmp nat_cmp) pairs)

-- the pair at the index has the name
pub record IsAt (pairs : List Pair) (name : List ℕ) (at : ℕ) : Type 0 where
  pub in_range : at < length pairs
  pub has_name : (d : Pair) → (slice_index_or pairs at d).0 ≡ name

-- the names before the index are lower, and those from it on are higher
pub record IsGapFor (pairs : List Pair) (name : List ℕ) (at : ℕ) : Type 0 where
  pub in_range : at ≤ length pairs
  pub lower : (i : ℕ) (d : Pair) → i < at → slice_cmp nat_cmp (slice_index_or pairs i d).0 name ≡ Less
  pub higher : (i : ℕ) (d : Pair) → at ≤ i → i < length pairs →
      slice_cmp nat_cmp (slice_index_or pairs i d).0 name ≡ Greater
