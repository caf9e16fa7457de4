-- What becomes of a request, and what is sent for it.
use Rattle.std.specs.Prelude.{◌≡◌, ℕ, List}
use Rattle.http.specs.declared.request.Request.{Request}
use Rattle.http.specs.declared.response.Response.{Response}
use Rattle.http_connections.specs.declared.request.progress.Progress.{Progress}
use Rattle.http_connections.specs.declared.request.progress.Progress.TheVariants.{Answered, Pending}
use Rattle.http_messages.specs.Wire.{IsSent}

-- it is what is sent of an answer that may be given to the message; `IsEmpty` says which content has no bytes
abbrev pub IsSentFor : {C : Type 0} → (C → Type 0) → (Request (List ℕ) → Response C → Type 0)
    → Request (List ℕ) → Response C → Type 0
IsSentFor {C} IsEmpty gives message made = (answer : Response C) × gives message answer × IsSent IsEmpty answer made

-- the message has an answer that may be given to it, or an exchange by which it may be forwarded, and which
-- may be polled
abbrev pub IsProgress : {E C : Type 0} → (Request (List ℕ) → Response C → Type 0)
    → (Request (List ℕ) → E → Type 0) → (E → Type 0) → Request (List ℕ) → Progress E C → Type 0
IsProgress gives forwards can_poll message (Answered answer) = gives message answer
IsProgress gives forwards can_poll message (Pending exchange) =
    forwards message exchange.value × can_poll exchange.value

-- the exchange goes on from one by which the message may be forwarded: what it gives, that one gives
abbrev pub IsExchangeFor : {E Reply : Type 0} → (Request (List ℕ) → E → Type 0) → (E → Reply → Type 0)
    → Request (List ℕ) → E → Type 0
IsExchangeFor {E} {Reply} forwards gives message exchange =
    (begun : E) × forwards message begun × ((reply : Reply) → gives exchange reply → gives begun reply)

-- a site, and the number of the seat by which it answers
pub record Giver (A : Type 0) : Type 0 where
  pub site : A
  pub number : ℕ

module _ {A Seat : Type 0} (number_of : Seat → ℕ) where
  -- the answer may be given to the message by the site, by the seat with this number
  abbrev pub IsGivenBy : {C : Type 0} → (A → Seat → Seat → Request (List ℕ) → Response C → Type 0) → Giver A
      → Request (List ℕ) → Response C → Type 0
  IsGivenBy gives giver message answer =
      (old : Seat) × (new : Seat) × (number_of old ≡ giver.number) × gives giver.site old new message answer

  -- the message may be forwarded by the exchange, by the site and the seat with this number
  abbrev pub IsForwardedBy : {E : Type 0} → (A → Seat → Seat → Request (List ℕ) → E → Type 0) → Giver A
      → Request (List ℕ) → E → Type 0
  IsForwardedBy forwards giver message exchange =
      (old : Seat) × (new : Seat) × (number_of old ≡ giver.number) × forwards giver.site old new message exchange
