-- One more frame of content.
use Rattle.std.specs.Prelude.{◌≡◌, ◌<◌, ℕ, Bool, true, false, List, ◌++◌, length}
use Rattle.http_body.specs.Frame.{bytes_in}
use Rattle.http_body.specs.declared.frame.Frame.{Frame}
use Rattle.mock_request.specs.declared.snapshot.TheConstants.{BODY_LIMIT}

-- what was held, and whether it was too long, became this by the frame
abbrev pub IsPushed : Bool → List ℕ → Frame (List ℕ) → Bool → List ℕ → Type 0
IsPushed true held frame is_too_long next = is_too_long ≡ true
IsPushed false held frame true next = BODY_LIMIT < length (held ++ bytes_in frame.kind)
IsPushed false held frame false next = next ≡ held ++ bytes_in frame.kind
