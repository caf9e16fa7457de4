-- What is done with the seat of a cell, and with the server's own.
use Rattle.std.specs.Prelude.{◌≡◌, ◌⊎◌, Bool, Err, None, Ok, Option, Result, Some, IsSomeAnd, false, true}

-- the cell has a seat, before and after, of which this holds
abbrev pub OnSeat : {S : Type 0} → Option S → Option S → (S → S → Type 0) → Type 0
OnSeat held held' P = IsSomeAnd held (λ old. IsSomeAnd held' (P old))

module _ {S : Type 0} (splits : S → S → Option S → Type 0) (own own' : Option S) where
  -- no seat can be split off the server's own, or it has none
  abbrev pub HasNoSeat : Type 0
  HasNoSeat = ((own ≡ None) × (own' ≡ None)) ⊎ OnSeat own own' (λ old new. splits old new None)

module _ {S : Type 0} (joins : S → S → S → Result (Unit {0}) S → Type 0) (own own' : Option S) where
  -- this came of joining the seat to the server's own, if it has one
  abbrev pub IsJoinedTo : S → Result (Unit {0}) S → Type 0
  IsJoinedTo seat result =
      ((own ≡ None) × (own' ≡ None) × (result ≡ Err seat)) ⊎ OnSeat own own' (λ old new. joins old seat new result)

  -- the seat of a cell, if it had one, was joined, and the cell is free; or the cell keeps it
  abbrev pub IsTakenOver : Option S → Option S → Bool → Type 0
  IsTakenOver None held' is_free = (own' ≡ own) × (held' ≡ None) × (is_free ≡ true)
  IsTakenOver (Some seat) None is_free = IsJoinedTo seat (Ok tt) × (is_free ≡ true)
  IsTakenOver (Some seat) (Some kept) is_free = IsJoinedTo seat (Err kept) × (is_free ≡ false)
