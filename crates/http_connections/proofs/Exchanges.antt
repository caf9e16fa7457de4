-- What is given by an exchange that goes on from the one that was begun, and while content is gathered.
use Rattle.std.proofs.Common.{◌≡◌, ℕ, List, Result, Ok, Err, IfOk, inl, inr, subst}
use Rattle.futures.specs.Poll.{IfReady, OnPending}
use Rattle.futures.specs.declared.task.Poll.{Poll}
use Rattle.futures.specs.declared.task.Poll.TheVariants.{Ready, Pending}
use Rattle.http.specs.declared.request.Parts.{Parts}
use Rattle.http.specs.declared.request.Request.{Request}
use Rattle.http.specs.declared.response.Response.{Response}
use Rattle.http_connections.specs.Content.{IsAnswerFor, IsAnswerTo, IsContentOf, IsEmptyAnswer, Refuses}
use Rattle.http_connections.specs.Sent.{IsExchangeFor, IsSentFor}
use Rattle.http_connections.specs.declared.request.content_error.ContentError.{ContentError}
use Rattle.http_connections.specs.declared.request.content_error.ContentError.TheVariants.{Late, Malformed, OutOfMemory, TooLong}

-- memory ran out for a request that has content to be answered with
refused : {C : Type 0} (IsEmpty : C → Type 0) (gathered : Result (List ℕ) ContentError) (body : List ℕ)
    → IsContentOf gathered body → (made : Response C) → IsEmptyAnswer IsEmpty 503 made
    → Refuses IsEmpty gathered made
refused IsEmpty (Ok content) body is made refusal = refusal
refused IsEmpty (Err TooLong) body is made refusal = refusal
refused IsEmpty (Err Malformed) body none made refusal = absurd none
refused IsEmpty (Err Late) body none made refusal = absurd none
refused IsEmpty (Err OutOfMemory) body none made refusal = absurd none

module _ {Refusal C : Type 0} (IsEmpty : C → Type 0) (gives : Request (List ℕ) → Response C → Type 0) where
  -- what is sent is sent of an answer
  pub sent_or_refused : (message : Request (List ℕ)) (result : Result (Response C) Refusal)
      → IfOk result (IsSentFor IsEmpty gives message) → IfOk result (IsAnswerFor IsEmpty gives message)
  sent_or_refused message (Ok made) sent = inl sent
  sent_or_refused message (Err error) sent = tt

  -- what is given for a request with this head, where the gatherer may give so
  abbrev pub IsGivenWith : Parts → (Result (List ℕ) ContentError → Type 0)
      → Result (Response C) Refusal → Type 0
  IsGivenWith head comes result = IfOk result (λ made. (gathered : Result (List ℕ) ContentError) × comes gathered
      × IsAnswerTo IsEmpty gives head gathered made)

  pub given_within : (head head' : Parts) (comes comes' : Result (List ℕ) ContentError → Type 0) → head' ≡ head
      → ((gathered : Result (List ℕ) ContentError) → comes' gathered → comes gathered)
      → (result : Result (Response C) Refusal) → IsGivenWith head' comes' result → IsGivenWith head comes result
  given_within head head' comes comes' same more (Ok made) given =
      (given.0, more given.0 given.1, subst (λ h. IsAnswerTo IsEmpty gives h given.0 made) same given.2)
  given_within head head' comes comes' same more (Err refusal) given = tt

  module _ {E Reply : Type 0} (forwards : Request (List ℕ) → E → Type 0)
      (exchanged : E → Reply → Type 0) where
    -- what is given for each message that the exchange may be for
    abbrev pub IsGivenBy : E → Result (Response C) Refusal → Type 0
    IsGivenBy exchange result = (message : Request (List ℕ)) → IsExchangeFor forwards exchanged message exchange
        → IfOk result (IsAnswerFor IsEmpty gives message)

    module _ (head : Parts) (comes : Result (List ℕ) ContentError → Type 0)
        (gathered : Result (List ℕ) ContentError) (came : comes gathered) (body : List ℕ)
        (content : IsContentOf gathered body) (exchange : E)
        (may : forwards (record { head = head; body = body }) exchange) where
      with_body : (result : Result (Response C) Refusal)
          → IfOk result (IsAnswerFor IsEmpty gives (record { head = head; body = body }))
          → IsGivenWith head comes result
      with_body (Ok made) (inl sent) = (gathered, came, inl (body, content, sent))
      with_body (Ok made) (inr refusal) = (gathered, came, inr (refused IsEmpty gathered body content made refusal))
      with_body (Err refusal) given = tt

      pub given_with : (result : Result (Response C) Refusal) → IsGivenBy exchange result
          → IsGivenWith head comes result
      given_with result given =
          with_body result (given (record { head = head; body = body }) (exchange, may, λ reply same. same))

      pub given_at_once : (polled : Poll (Result (Response C) Refusal))
          → IfReady polled (IsGivenBy exchange) → IfReady polled (IsGivenWith head comes)
      given_at_once (Ready result) given = given_with result given
      given_at_once Pending given = tt

      pub given_later : (polled : Poll (Result (Response C) Refusal)) (MayGive : Result (Response C) Refusal → Type 0)
          → OnPending polled ((result : Result (Response C) Refusal) → MayGive result → IsGivenBy exchange result)
          → OnPending polled ((result : Result (Response C) Refusal)
          → MayGive result → IsGivenWith head comes result)
      given_later (Ready result) MayGive same = tt
      given_later Pending MayGive same = λ result given. given_with result (same result given)

module _ {Refusal C A : Type 0} (IsEmpty : C → Type 0) (gives : A → Request (List ℕ) → Response C → Type 0)
    (site site' : A) where
  -- the same, where it is given by the same site and seat
  pub given_by_site : site' ≡ site → (head head' : Parts) (comes comes' : Result (List ℕ) ContentError → Type 0)
      → head' ≡ head → ((gathered : Result (List ℕ) ContentError) → comes' gathered → comes gathered)
      → (result : Result (Response C) Refusal) → IsGivenWith IsEmpty (gives site') head' comes' result
      → IsGivenWith IsEmpty (gives site) head comes result
  given_by_site same_site head head' comes comes' same more result given =
      given_within IsEmpty (gives site) head head' comes comes' same more result
      (subst (λ s. IsGivenWith IsEmpty (gives s) head' comes' result) same_site given)

module _ {Refusal C B E Reply : Type 0} (IsEmpty : C → Type 0) (gives : B → Request (List ℕ) → Response C → Type 0)
    (forwards : B → Request (List ℕ) → E → Type 0) (exchanged : E → Reply → Type 0) (by by' : B) (same : by' ≡ by)
    (polled : Poll (Result (Response C) Refusal)) (exchange : E) where
  -- the same, where it is given by the same site and seat
  pub by_same_at_once : IfReady polled (IsGivenBy IsEmpty (gives by') (forwards by') exchanged exchange)
      → IfReady polled (IsGivenBy IsEmpty (gives by) (forwards by) exchanged exchange)
  by_same_at_once =
      subst (λ b. IfReady polled (IsGivenBy IsEmpty (gives b) (forwards b) exchanged exchange)) same

  pub by_same_later : (MayGive : Result (Response C) Refusal → Type 0)
      → OnPending polled ((result : Result (Response C) Refusal)
      → MayGive result → IsGivenBy IsEmpty (gives by') (forwards by') exchanged exchange result)
      → OnPending polled ((result : Result (Response C) Refusal)
      → MayGive result → IsGivenBy IsEmpty (gives by) (forwards by) exchanged exchange result)
  by_same_later MayGive =
      subst (λ b. OnPending polled ((result : Result (Response C) Refusal)
      → MayGive result → IsGivenBy IsEmpty (gives b) (forwards b) exchanged exchange result)) same
