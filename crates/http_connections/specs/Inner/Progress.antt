-- What a request has become, and what is sent of that.
use Rattle.std.specs.Prelude.{◌≡◌, ℕ, List, Result}
use Rattle.http.specs.declared.request.Parts.{Parts}
use Rattle.http.specs.declared.request.Request.{Request}
use Rattle.http.specs.declared.response.Response.{Response}
use Rattle.http_connections.specs.declared.request.progress.Progress.{Progress}
use Rattle.http_connections.specs.declared.request.progress.Progress.TheVariants.{Answered, Pending}
use Rattle.http_connections.specs.Content.{IsAnswerTo, IsContentOf}
use Rattle.http_connections.specs.declared.request.content_error.ContentError.{ContentError}
use Rattle.http_messages.specs.Wire.{IsSent}

-- an answer becomes what is sent of it, and an exchange stays
abbrev pub IsSentOf : {E C : Type 0} → (C → Type 0) → Progress E C → Progress E C → Type 0
IsSentOf {C = C} IsEmpty (Answered answer) made =
    (sent : Response C) × (made ≡ Answered sent) × IsSent IsEmpty answer sent
IsSentOf IsEmpty (Pending exchange) made = made ≡ Pending exchange

-- A request with this head, after this came of gathering its content, has an answer that may be sent, or an exchange by
-- which it may be forwarded, and which may be polled.
abbrev pub IsProgressWith : {E C : Type 0} → (C → Type 0) → (Request (List ℕ) → Response C → Type 0)
    → (Request (List ℕ) → E → Type 0) → (E → Type 0) → Parts → Result (List ℕ) ContentError
    → Progress E C → Type 0
IsProgressWith IsEmpty gives forwards can_poll head gathered (Answered made) = IsAnswerTo IsEmpty gives head gathered made
IsProgressWith IsEmpty gives forwards can_poll head gathered (Pending exchange) =
    ((body : List ℕ) × IsContentOf gathered body × forwards (record { head = head; body = body }) exchange.value)
    × can_poll exchange.value
