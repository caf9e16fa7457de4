-- The entries of a history: which seat made each, and what it did.
use Rattle.std.specs.Prelude.{◌≡◌, ℕ, ◌==◌, Bool, true, false, List, [], ◌∷◌, All, filter, Some, slice_get}
use Rattle.shared_history.specs.declared.entry.Deed.{Deed}
use Rattle.shared_history.specs.declared.entry.Deed.TheVariants.{Opened, Called, Looked, Split, Left}
use Rattle.shared_history.specs.declared.entry.Entry.{Entry}

module _ {O E : Type 0} where
  -- this seat did this
  abbrev pub entry : ℕ → Deed O E → Entry O E
  entry number deed = record { seat = number; deed = deed }

  -- the first entry of a history, by the seat 0, which it makes
  abbrev pub opening : O → Entry O E
  opening origin = entry 0 (Opened origin)

  -- those that a seat made
  abbrev pub own : ℕ → List (Entry O E) → List (Entry O E)
  own number log = filter (λ e. e.seat == number) log

  -- the event of each call, in order
  abbrev pub events : List (Entry O E) → List E
  events [] = []
  events (e ∷ log) =
      elim e.deed [
        | Opened origin ↦ events log
        | Called event ↦ event ∷ events log
        | Looked ↦ events log
        | Split ↦ events log
        | Left ↦ events log
      ]

  -- whether it makes a seat, whose number is the index of the entry
  abbrev pub makes_seat : Deed O E → Bool
  makes_seat (Opened origin) = true
  makes_seat (Called event) = false
  makes_seat Looked = false
  makes_seat Split = true
  makes_seat Left = false

  abbrev pub is_left : Deed O E → Bool
  is_left (Opened origin) = false
  is_left (Called event) = false
  is_left Looked = false
  is_left Split = false
  is_left Left = true

  -- an entry made the seat, and it has not left
  pub record IsSeat (log : List (Entry O E)) (number : ℕ) : Type 0 where
    pub maker : Entry O E
    pub stands : slice_get log number ≡ Some maker
    pub makes : makes_seat maker.deed ≡ true
    pub stays : All (λ e. is_left e.deed ≡ false) (own number log)
