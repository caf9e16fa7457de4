-- What is sent of what a request has become.
use Rattle.std.proofs.Common.{◌≡◌, ℕ, List, Option, None, Some, Result, Ok, Err, IfOk, inl, refl, sym, subst}
use Rattle.http.specs.Request.{body_of, head_of}
use Rattle.http.specs.declared.request.Parts.{Parts}
use Rattle.http.specs.declared.request.Request.{Request}
use Rattle.http.specs.declared.response.Response.{Response}
use Rattle.http_connections.specs.Content.{IsContentOf}
use Rattle.http_connections.specs.Inner.Progress.{IsProgressWith, IsSentOf}
use Rattle.http_connections.specs.Inner.Seat.{OnSeat}
use Rattle.http_connections.specs.Sent.{Giver, IsProgress, IsForwardedBy, IsGivenBy, IsSentFor}
use Rattle.http_connections.specs.declared.request.progress.Progress.{Progress}
use Rattle.http_connections.specs.declared.request.progress.Progress.TheVariants.{Answered, Pending}
use Rattle.http_connections.specs.declared.request.content_error.ContentError.{ContentError}

module _ {A Seat E C : Type 0} (number_of : Seat → ℕ)
    (gives : A → Seat → Seat → Request (List ℕ) → Response C → Type 0)
    (forwards : A → Seat → Seat → Request (List ℕ) → E → Type 0) (can_poll : E → Type 0) (by : Giver A)
    (message : Request (List ℕ)) where
  -- what the seat of a cell has begun, the site has begun by a seat with the slot's number
  begun_by : (old new : Seat) → number_of old ≡ by.number → (begun : Progress E C)
      → IsProgress (gives by.site old new) (forwards by.site old new) can_poll message begun
      → IsProgress (IsGivenBy number_of gives by) (IsForwardedBy number_of forwards by) can_poll message begun
  begun_by old new same (Answered answer) given = (old, new, same, given)
  begun_by old new same (Pending exchange) given = ((old, new, same, given.0), given.1)

  pub by_seat : {Refusal : Type 0} (held held' : Option Seat) (result : Result (Progress E C) Refusal)
      → IfOk result (λ begun. OnSeat held held' (λ old new. (number_of old ≡ by.number)
      × IsProgress (gives by.site old new) (forwards by.site old new) can_poll message begun))
      → IfOk result (IsProgress (IsGivenBy number_of gives by) (IsForwardedBy number_of forwards by) can_poll message)
  by_seat (Some old) (Some new) (Ok begun) given = begun_by old new given.0 begun given.1
  by_seat (Some old) None (Ok begun) given = absurd given
  by_seat None held (Ok begun) given = absurd given
  by_seat held held' (Err refusal) given = tt

module _ {E C : Type 0} (IsEmpty : C → Type 0) (gives : Request (List ℕ) → Response C → Type 0)
    (forwards : Request (List ℕ) → E → Type 0) (can_poll : E → Type 0) (message : Request (List ℕ)) where
  abbrev IsBegunSent : Progress E C → Type 0
  IsBegunSent = IsProgress (IsSentFor IsEmpty gives) forwards can_poll message

  sent_begun : (begun made : Progress E C) → IsProgress gives forwards can_poll message begun
      → IsSentOf IsEmpty begun made → IsBegunSent made
  sent_begun (Answered answer) made given sent = subst IsBegunSent (sym sent.1) (answer, given, sent.2)
  sent_begun (Pending exchange) made given same = subst IsBegunSent (sym same) given

  pub sent_as_it_is : {Refusal : Type 0} (result : Result (Progress E C) Refusal)
      → IfOk result (IsProgress gives forwards can_poll message) → IfOk result (λ begun. IsSentOf IsEmpty begun begun)
      → IfOk result (IsProgress (IsSentFor IsEmpty gives) forwards can_poll message)
  sent_as_it_is (Ok begun) given sent = sent_begun begun begun given sent
  sent_as_it_is (Err refusal) given sent = tt

  pub sent_anew : (begun : Progress E C) → IsProgress gives forwards can_poll message begun
      → {Refusal : Type 0} (result : Result (Progress E C) Refusal) → IfOk result (IsSentOf IsEmpty begun)
      → IfOk result (IsProgress (IsSentFor IsEmpty gives) forwards can_poll message)
  sent_anew begun given (Ok made) sent = sent_begun begun made given sent
  sent_anew begun given (Err refusal) sent = tt

module _ {E C : Type 0} (IsEmpty : C → Type 0) (gives : Request (List ℕ) → Response C → Type 0)
    (forwards : Request (List ℕ) → E → Type 0) (can_poll : E → Type 0) (head : Parts)
    (gathered : Result (List ℕ) ContentError) (content : List ℕ) (is : IsContentOf gathered content) where
  -- a request was begun with the content that was gathered
  pub begun_with : {Refusal : Type 0} (result : Result (Progress E C) Refusal)
      → IfOk result (IsProgress (IsSentFor IsEmpty gives) forwards can_poll (record { head = head; body = content }))
      → IfOk result (IsProgressWith IsEmpty gives forwards can_poll head gathered)
  begun_with (Ok (Answered made)) given = inl (content, is, given)
  begun_with (Ok (Pending exchange)) given = ((content, is, given.0), given.1)
  begun_with (Err refusal) given = tt

-- a message is its head and its content
pub message_of : (message : Request (List ℕ)) (head : Parts) (content : List ℕ) → head_of message ≡ head
    → body_of message ≡ content → message ≡ record { head = head; body = content }
message_of message head content of_head of_body = rw (sym of_head, sym of_body) refl
