-- What the body of a response yields (RFC 9110, section 6.4): its content, cut into frames in any way.
use Rattle.std.specs.Prelude.{◌≡◌, ℕ, List, [], ◌∷◌, ◌++◌, Option, None, Some, Result, Ok, Err, ⊤}
use Rattle.http_body.specs.Frame.{data_frame}
use Rattle.http_body.specs.declared.frame.Frame.{Frame}
use Rattle.http_messages.specs.declared.error.ServiceError.{ServiceError}

-- the frame has the first bytes of the content, and what holds of the rest
abbrev pub IsFrontOfBody : Frame (List ℕ) → List ℕ → (List ℕ → Type 0) → Type 0
IsFrontOfBody frame content Holds =
    (piece : List ℕ) × (frame ≡ data_frame piece)
    × ((rest : List ℕ) × (content ≡ piece ++ rest) × Holds rest)

-- These frames, and then this answer: the end comes exactly after the whole content. After an error
-- nothing is promised.
unfoldable pub Yields : List ℕ → List (Result (Frame (List ℕ)) ServiceError)
    → Option (Result (Frame (List ℕ)) ServiceError) → Type 0
Yields content [] None = content ≡ []
Yields content [] (Some (Ok frame)) = IsFrontOfBody frame content (λ _. ⊤)
Yields content [] (Some (Err error)) = ⊤
Yields content (Ok frame ∷ frames) last = IsFrontOfBody frame content (λ rest. Yields rest frames last)
Yields content (Err error ∷ frames) last = ⊤
