-- Which lists of entries are histories.
use Rattle.std.specs.Prelude.{◌≡◌, ℕ, List, [], ◌∷◌, ◌++◌}
use mathlib.Core.List.{IsPrefix}
use Rattle.shared_history.specs.Entries.{opening, own, events, IsSeat}
use Rattle.shared_history.specs.declared.entry.Deed.{Deed}
use Rattle.shared_history.specs.declared.entry.Deed.TheVariants.{Opened, Called, Looked, Split, Left}
use Rattle.shared_history.specs.declared.entry.Entry.{Entry}

-- it has ended: each seat that an entry made has left
abbrev pub HasEnded : {O E : Type 0} → List (Entry O E) → Type 0
HasEnded log = (number : ℕ) → ¬ (IsSeat log number)

-- `may origin before event`: the event may come after these, in a history with this origin
module _ {O E : Type 0} (may : O → List E → E → Type 0) where
  -- after these entries a seat may do this: open nothing, and call what may follow the events so far
  abbrev pub MayDo : O → List (Entry O E) → Deed O E → Type 0
  MayDo origin before (Opened other) = ⊥
  MayDo origin before (Called event) = may origin (events before) event
  MayDo origin before Looked = Unit {0}
  MayDo origin before Split = Unit {0}
  MayDo origin before Left = Unit {0}

  -- each of these entries is of a seat that was made before and has not left, which may do this
  abbrev pub GoesOn : O → List (Entry O E) → List (Entry O E) → Type 0
  GoesOn origin before [] = Unit {0}
  GoesOn origin before (e ∷ after) = IsSeat before e.seat × MayDo origin before e.deed
      × GoesOn origin (before ++ e ∷ []) after

  -- the first entry opens it with an origin, and the others go on from there
  pub record IsHistory (log : List (Entry O E)) : Type 0 where
    pub origin : O
    pub after : List (Entry O E)
    pub opens : log ≡ opening origin ∷ after
    pub goes_on : GoesOn origin (opening origin ∷ []) after

  -- a seat may do this next
  pub record MayFollow (log : List (Entry O E)) (deed : Deed O E) : Type 0 where
    pub origin : O
    pub after : List (Entry O E)
    pub opens : log ≡ opening origin ∷ after
    pub allowed : MayDo origin log deed

  -- the event may come next, which is `may origin (events log) event`
  abbrev pub MayCall : List (Entry O E) → E → Type 0
  MayCall log event = MayFollow log (Called event)

  -- the seat has no entry but these in any history that begins so
  abbrev pub HasLeft : List (Entry O E) → ℕ → Type 0
  HasLeft log number = (later : List (Entry O E)) → IsHistory later → IsPrefix log later
      → own number later ≡ own number log

  -- a history that begins so is this one
  abbrev pub IsWhole : List (Entry O E) → Type 0
  IsWhole log = (later : List (Entry O E)) → IsHistory later → IsPrefix log later → later ≡ log
