-- What contracts see of a store of live mappings, and how an event changes it.
use Rattle.std.specs.Prelude.{◌≡◌, ℕ, List, [], ◌∷◌, ◌++◌, map, AllPairs}
use Rattle.std.specs.List.Sorted.{IsPermutation}
use Rattle.request_journal.specs.Choice.{IsNewer}
use Rattle.request_journal.specs.Live.{adds, left_by}
use Rattle.request_journal.specs.Past.{Placed}
use Rattle.request_journal.specs.declared.event.Event.{Event}
use Rattle.request_journal.specs.declared.mapping.Mapping.{Mapping}

-- the mappings that a reset adds, the live ones in any order, and how many more may be added before memory is needed
pub record Stored : Type 0 where
  pub defaults : List Mapping
  pub live : List Placed
  pub room : ℕ

-- the new store has the live mappings that the event of this number leaves and adds
pub record Follows (old new : Stored) (number : ℕ) (event : Event) : Type 0 where
  pub same_defaults : new.defaults ≡ old.defaults
  pub live : IsPermutation (left_by (event ∷ []) old.live ++ adds old.defaults number event) new.live

-- the mappings, the newest first
pub record IsNewestFirst (live : List Placed) (listed : List Mapping) : Type 0 where
  pub ordered : List Placed
  pub all : IsPermutation live ordered
  pub newest_first : AllPairs (λ a b. ¬ (IsNewer b.place a.place)) ordered
  pub mappings : listed ≡ map (λ p. p.mapping) ordered
