-- The server's own seat takes over others.
use Rattle.std.proofs.Common.{◌≡◌, ◌⊎◌, ℕ, Bool, [], ◌∷◌, ◌++◌, List, Option, None, Some, Result, Ok, Err, IfSome}
use Rattle.std.proofs.Common.{IsSomeAnd, inl, inr, sym, ◌∙◌, ap}
use Rattle.http_connections.specs.Inner.Seat.{IsJoinedTo, IsTakenOver, OnSeat}

module _ {S : Type 0} (joins : S → S → S → Result (Unit {0}) S → Type 0) where
  -- the server's own seat is as it was, or has joined some seat
  abbrev pub MayJoin : Option S → Option S → Type 0
  MayJoin own own' = (own' ≡ own)
      ⊎ OnSeat own own' (λ old new. (other : S) × (joined : Result (Unit {0}) S) × joins old other new joined)

  joined_some : (own own' : Option S) (seat : S) (result : Result (Unit {0}) S)
      → IsJoinedTo joins own own' seat result → MayJoin own own'
  joined_some own own' seat result (inl none) = inl (none.1 ∙ sym none.0)
  joined_some None own' seat result (inr joined) = absurd joined
  joined_some (Some old) None seat result (inr joined) = absurd joined
  joined_some (Some old) (Some new) seat result (inr joined) = inr (seat, result, joined)

  pub taken_over : (own own' held held' : Option S) (is_free : Bool)
      → IsTakenOver joins own own' held held' is_free → MayJoin own own'
  taken_over own own' None held' is_free taken = inl taken.0
  taken_over own own' (Some seat) None is_free taken = joined_some own own' seat (Ok tt) taken.0
  taken_over own own' (Some seat) (Some kept) is_free taken = joined_some own own' seat (Err kept) taken.0

-- the cell has the seat that was split off
pub filled_some : {S : Type 0} (number_of : S → ℕ) (splits : S → S → Option S → Type 0) (own own' held : Option S)
    (number : ℕ)
    → IsSomeAnd held (λ seat. (number_of seat ≡ number) × OnSeat own own' (λ old new. splits old new (Some seat)))
    → OnSeat own own' (λ old new. (seat : S) × (number_of seat ≡ number) × splits old new (Some seat))
filled_some number_of splits own own' None number filled = absurd filled
filled_some number_of splits None own' (Some seat) number filled = absurd filled.1
filled_some number_of splits (Some old) None (Some seat) number filled = absurd filled.1
filled_some number_of splits (Some old) (Some new) (Some seat) number filled = (seat, filled.0, filled.1)

-- the first of a list stays where one is added at its end
pub first_stays : {S : Type 0} (own : Option S) (held held' : List S) (seat : S) → held' ≡ held ++ seat ∷ []
    → IfSome own (λ first. (others : List S) × (held ≡ first ∷ others))
    → IfSome own (λ first. (others : List S) × (held' ≡ first ∷ others))
first_stays None held held' seat more is = tt
first_stays (Some first) held held' seat more is =
    (is.0 ++ seat ∷ [], more ∙ ap (λ items. items ++ seat ∷ []) is.1)
