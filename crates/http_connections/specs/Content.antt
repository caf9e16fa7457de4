-- The content of a request: what is gathered of it, and what is answered then.
use Rattle.std.specs.Prelude.{◌≡◌, ◌<◌, ◌⊎◌, ℕ, Bool, true, false, List, [], ◌++◌, None, Some, Ok}
use Rattle.std.specs.Prelude.{Err, Result, length, map, ⊤}
use Rattle.futures.specs.Runs.{Runs}
use Rattle.http.specs.Request as request
use Rattle.http.specs.Response as response
use Rattle.http.specs.declared.request.Request.{Request}
use Rattle.http.specs.declared.request.Parts.{Parts}
use Rattle.http.specs.declared.response.Response.{Response}
use Rattle.http_body.specs.Frame.{bytes_in, joined_data}
use Rattle.http_body.specs.declared.frame.Frame.{Frame}
use Rattle.hyper.specs.Incoming.{size_left}
use Rattle.hyper.specs.declared.body.incoming.Incoming.{Incoming}
use Rattle.http_messages.specs.TransferCoding.{HasOtherCoding}
use Rattle.http_connections.specs.Sent.{IsSentFor}
use Rattle.http_connections.specs.declared.request.content_error.ContentError.{ContentError}
use Rattle.http_connections.specs.declared.request.content_error.ContentError.TheVariants.{Late, Malformed, OutOfMemory}
use Rattle.http_connections.specs.declared.request.content_error.ContentError.TheVariants.{TooLong}
use Rattle.http_connections.specs.declared.request.gathering.Gathering.{Gathering}
use Rattle.mock_request.specs.declared.snapshot.TheConstants.{BODY_LIMIT}

module _ {E : Type 0} (source : Runs (Result (Frame (List ℕ)) E)) (held : List ℕ) where
  -- A body gave frames and no error up to its end, and this content is what was held, with their data after it.
  -- (`Gathers` of `proxy_client` says this of a target's reply, whose data needn't be bytes, with the limit: one that
  -- is too long ends its exchange.)
  pub record Gathers (content : List ℕ) : Type 0 where
    pub frames : List (Frame (List ℕ))
    pub came : source (map Ok frames) None
    pub joined : content ≡ held ++ joined_data frames

  -- a body gave frames whose data, after what was held, are over the limit
  pub record Exceeds : Type 0 where
    pub frames : List (Frame (List ℕ))
    pub last : Frame (List ℕ)
    pub came : source (map Ok frames) (Some (Ok last))
    pub over : BODY_LIMIT < length (held ++ (joined_data frames ++ bytes_in last.kind))

-- a body gave frames, and then an error
pub record BodyFails {E : Type 0} (source : Runs (Result (Frame (List ℕ)) E)) : Type 0 where
  pub frames : List (Frame (List ℕ))
  pub error : E
  pub came : source (map Ok frames) (Some (Err error))

-- What comes of gathering the content of a body, of which `held` is there, or which is too long already: the data of
-- its frames, or that these are too long, where they are; malformed is a body that has failed.
abbrev pub IsGathered : {E : Type 0} → Runs (Result (Frame (List ℕ)) E) → Bool → List ℕ
    → Result (List ℕ) ContentError → Type 0
IsGathered source true held (Ok content) = ⊥
IsGathered source true held (Err TooLong) = ⊤
IsGathered source false held (Ok content) = Gathers source held content
IsGathered source false held (Err TooLong) = Exceeds source held
IsGathered source is_too_long held (Err Malformed) = BodyFails source
IsGathered source is_too_long held (Err Late) = ⊤
IsGathered source is_too_long held (Err OutOfMemory) = ⊤

-- what gathers the content of the body, of which nothing is there
pub record IsNewFor {R B : Type 0} (gathering : Gathering R B) (body : B) : Type 0 where
  pub source : gathering.body ≡ body
  pub empty : gathering.gathered.items ≡ []
  pub short : gathering.is_too_long ≡ false

module _ {I : Type 0} (body : Incoming I) where
  -- it is known to have more than the limit
  abbrev pub IsTooLong : Type 0
  IsTooLong = (size : ℕ) × (size_left body.kind ≡ Some size) × (BODY_LIMIT < size)

  -- the content that a request with this body is answered with before anything of it has come: it has none, or too much
  abbrev pub IsContentAtOnce : List ℕ → Type 0
  IsContentAtOnce content =
      ((size_left body.kind ≡ Some 0) × (content ≡ [])) ⊎ (IsTooLong × (BODY_LIMIT < length content))

-- The content that a request is answered with, after this came of gathering it: what is too long stands for
-- all that is.
abbrev pub IsContentOf : Result (List ℕ) ContentError → List ℕ → Type 0
IsContentOf (Ok content) body = body ≡ content
IsContentOf (Err TooLong) body = BODY_LIMIT < length body
IsContentOf (Err Malformed) body = ⊥
IsContentOf (Err Late) body = ⊥
IsContentOf (Err OutOfMemory) body = ⊥

module _ {C : Type 0} (IsEmpty : C → Type 0) where
  -- an answer of the connection's own, with this status and without content
  pub record IsEmptyAnswer (status : ℕ) (made : Response C) : Type 0 where
    pub answers : (response.head_of made).status ≡ status
    pub empty : IsEmpty (response.body_of made)

  -- how the connection itself refuses a request: where its content is malformed, or late while another connection waits
  -- for room, and where memory runs out
  abbrev pub Refuses : Result (List ℕ) ContentError → Response C → Type 0
  Refuses (Ok content) made = IsEmptyAnswer 503 made
  Refuses (Err TooLong) made = IsEmptyAnswer 503 made
  Refuses (Err Malformed) made = IsEmptyAnswer 400 made
  Refuses (Err Late) made = IsEmptyAnswer 408 made
  Refuses (Err OutOfMemory) made = IsEmptyAnswer 503 made

  -- what is sent for the message, or that memory ran out for it
  abbrev pub IsAnswerFor : (Request (List ℕ) → Response C → Type 0) → Request (List ℕ) → Response C
      → Type 0
  IsAnswerFor gives message made = IsSentFor IsEmpty gives message made ⊎ IsEmptyAnswer 503 made

  -- what is sent for a request with this head, after this came of gathering its content
  abbrev pub IsAnswerTo : (Request (List ℕ) → Response C → Type 0) → Parts → Result (List ℕ) ContentError
      → Response C → Type 0
  IsAnswerTo gives head gathered made =
      ((body : List ℕ) × IsContentOf gathered body
      × IsSentFor IsEmpty gives (record { head = head; body = body }) made)
      ⊎ Refuses gathered made

  -- what is sent for a request before its content has come
  abbrev pub IsAnsweredAtOnce : {I : Type 0} → (Request (List ℕ) → Response C → Type 0) → Request (Incoming I)
      → Response C → Type 0
  IsAnsweredAtOnce gives message made =
      ((content : List ℕ) × IsContentAtOnce (request.body_of message) content
      × IsSentFor IsEmpty gives (record { head = request.head_of message; body = content }) made)
      ⊎ ((HasOtherCoding (request.head_of message).headers × IsEmptyAnswer 501 made) ⊎ IsEmptyAnswer 503 made)
