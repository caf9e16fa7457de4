-- Which of some entries wins over the others.
use Rattle.std.specs.Prelude.{◌≡◌, ◌⊎◌, ℕ, ◌<◌, List, length, MatchOption, Option, None, Some, slice_index_or}
use Rattle.std.specs.List.{HoldsAt}
use Rattle.mapping_store.specs.Kept.{IsFirst}
use Rattle.mapping_store.specs.declared.entry.Entry.{Entry}

-- none of the entries of which P holds meets; or this one does, and of those none that does wins over it
module _ (P Meets : Entry → Type 0) (entries : List Entry) where
  abbrev pub IsNone : Type 0
  IsNone = (k : ℕ) (d : Entry) → k < length entries → P (slice_index_or entries k d)
      → ¬ (Meets (slice_index_or entries k d))

  pub record IsBestAt (at : ℕ) : Type 0 where
    pub within : at < length entries
    pub meets : HoldsAt Meets entries at
    pub first : (k : ℕ) (d : Entry) → k < length entries → P (slice_index_or entries k d)
        → Meets (slice_index_or entries k d) → IsFirst (slice_index_or entries at d) (slice_index_or entries k d)

  abbrev pub IsBest : Option ℕ → Type 0
  IsBest found = MatchOption found IsNone IsBestAt

-- the one is before the other in the order of choice
abbrev pub IsAheadOf : List Entry → ℕ → ℕ → Type 0
IsAheadOf entries at after =
    (d : Entry) → IsFirst (slice_index_or entries at d) (slice_index_or entries after d)

-- it is that of both which is ahead of the other
abbrev pub IsBetterOf : List Entry → Option ℕ → Option ℕ → Option ℕ → Type 0
IsBetterOf entries None other result = result ≡ other
IsBetterOf entries (Some at) None result = result ≡ Some at
IsBetterOf entries (Some at) (Some after) result =
    ((result ≡ Some at) × IsAheadOf entries at after) ⊎ ((result ≡ Some after) × IsAheadOf entries after at)
