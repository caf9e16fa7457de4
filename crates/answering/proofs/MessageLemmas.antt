-- What a message begins, by what its request does.
use Rattle.std.proofs.Common.{◌≡◌, ◌≤◌, ◌<◌, ℕ, List, All, length, Ok, Err, refl, subst, sym, inr}
use Rattle.std.specs.Prelude.{Option, Result, IfOk, IsErrOf, MatchResult}
use Rattle.admin_routes.specs.Routes.{IsAdmin}
use Rattle.error_code.specs.declared.error_code.ErrorCode.TheVariants.{OutOfMemory}
use Rattle.http.specs.Request.{body_of}
use Rattle.http.specs.declared.request.Request.{Request as Message}
use Rattle.http_header.specs.FieldName.{IsHeaderName}
use Rattle.http_messages.specs.Received.{IsReceived, target_of}
use Rattle.answering.specs.Answering.{BeginsMessage, IsMessageUnanswered, IsAnsweredUnread, IsMessageReply, IsRequestAnswered, IsUnreadable, refusal}
use Rattle.answering.specs.Forwarding.{IsToForward, serve_receipt}
use Rattle.answering.specs.Inner.Sent.{HasBegun, IsBegunOf, IsServedToForward, IsServedToRender}
use Rattle.answering.specs.Rendering.{IsToRender, rendering_receipt}
use Rattle.answering.specs.declared.begun.Begun.{Begun}
use Rattle.answering.specs.declared.begun.Begun.TheVariants.{Answered, Refused, ToForward, ToRender}
use Rattle.answering.specs.declared.forward.Forward.{Forward}
use Rattle.answering.specs.declared.rendering.Rendering.{Rendering}
use Rattle.logbook.specs.Pages.{Book as HistoryName}
use Rattle.mapping_model.specs.declared.reply.Reply.{Reply}
use Rattle.mock_request.specs.Request.{Header, Request}
use Rattle.mock_request.specs.Target.{HasUrl}
use Rattle.mock_request.specs.declared.error.SnapshotError.{SnapshotError}
use Rattle.mock_request.specs.declared.error.SnapshotError.TheVariants as unread
use Rattle.mock_request.specs.declared.snapshot.TheConstants.{BODY_LIMIT}
use Rattle.request_journal.specs.Past.{Past}
use Rattle.shared_book.specs.Held.{Held}
use Rattle.shared_book.specs.Lent.{Gains}
use Rattle.stub_book.specs.Growth.{IsServed}
use Rattle.stub_response.specs.ErrorReply.{error_reply}
use Rattle.stub_response.specs.declared.limits.Limits.{Limits}
use Rattle.template_tree.specs.declared.escape.Escape.{Escape}

-- it is no admin call
abbrev pub IsRequestToRender : Past → HistoryName → Limits → Held → Held → Request → Rendering → Type 0
IsRequestToRender origin name limits old new request rendering =
    ¬ (IsAdmin request.url) × IsServedToRender origin name limits old new request rendering

-- it is no admin call
abbrev pub IsRequestToForward : Past → HistoryName → Held → Held → Request → Forward → Type 0
IsRequestToForward origin name old new request forward =
    ¬ (IsAdmin request.url) × IsServedToForward origin name old new request forward

-- why a message isn't read
pub is_unread : {T : Type 0} (message : Message (List ℕ)) (error : SnapshotError) (result : Result T SnapshotError)
    → result ≡ Err error
    → (IsErrOf result unread.BadUrl → ¬ (HasUrl (target_of message)))
    → (IsErrOf result unread.BodyTooLarge → HasUrl (target_of message) × (BODY_LIMIT < length (body_of message)))
    → IsUnreadable message error
is_unread message unread.BadUrl result is bad large = bad is
is_unread message unread.BodyTooLarge result is bad large = large is
is_unread message unread.OutOfMemory result is bad large = tt

-- what is to be forwarded of a request of the message
to_forward
    : (origin : Past) (name : HistoryName) (old middle new : Held) (message : Message (List ℕ)) (request : Request)
    (forward : Forward)
    → middle ≡ old → IsReceived message request → length (body_of message) ≤ BODY_LIMIT
    → All (λ (h : Header). IsHeaderName h.name) request.headers
    → IsRequestToForward origin name middle new request forward → IsToForward origin name old new message forward
to_forward origin name old middle new message request forward same received within names is = record {
  received = subst (IsReceived message) (sym is.1.0) received;
  within = within;
  no_admin_call = subst (λ (r : Request). ¬ (IsAdmin r.url)) (sym is.1.0) is.0;
  served =
      subst (λ held. Gains origin name held new (IsServed forward.request) (serve_receipt forward)) same is.1.1;
  names = subst (λ (r : Request). All (λ (h : Header). IsHeaderName h.name) r.headers) (sym is.1.0) names;
}

-- what is to be rendered of a request of the message
to_render
    : (origin : Past) (name : HistoryName) (limits : Limits) (old middle new : Held) (message : Message (List ℕ))
    (request : Request) (rendering : Rendering)
    → middle ≡ old → IsReceived message request → length (body_of message) ≤ BODY_LIMIT
    → IsRequestToRender origin name limits middle new request rendering
    → IsToRender origin name limits old new message rendering
to_render origin name limits old middle new message request rendering same received within is = record {
  received = subst (IsReceived message) (sym is.1.0) received;
  within = within;
  no_admin_call = subst (λ (r : Request). ¬ (IsAdmin r.url)) (sym is.1.0) is.0;
  served = subst (λ held. Gains origin name held new (IsServed rendering.request) (rendering_receipt rendering)) same
      is.1.2;
  kept_to = is.1.1;
}

-- its request begins what the message begins
pub of_request : {E : Type 0} (origin : Past) (name : HistoryName) (limits : Limits) (escape : Escape)
    (page : Option (List ℕ)) (old middle new : Held)
    (message : Message (List ℕ)) (request : Request) (result : Result Begun E)
    → middle ≡ old → IsReceived message request → length (body_of message) ≤ BODY_LIMIT
    → All (λ (h : Header). IsHeaderName h.name) request.headers
    → MatchResult result
    (HasBegun (IsRequestAnswered origin name limits escape page middle new request)
    (IsRequestToForward origin name middle new request) (IsRequestToRender origin name limits middle new request))
    (λ _. (reply : Reply) × IsRequestAnswered origin name limits escape page middle new request reply)
    → MatchResult result
    (HasBegun (IsMessageReply origin name limits escape page old new message) (IsToForward origin name old new message)
    (IsToRender origin name limits old new message))
    (λ _. IsMessageUnanswered origin name limits escape page old new message)
of_request origin name limits escape page old middle new message request (Ok (Answered response)) same received within
    names is = (
      is.0,
      inr (
        request,
        received,
        within,
        subst (λ held. IsRequestAnswered origin name limits escape page held new request is.0) same is.1,
      ),
      is.2,
    )
of_request origin name limits escape page old middle new message request (Ok (Refused refused)) same received within
    names is = (
      is.0,
      inr (
        request,
        received,
        within,
        subst (λ held. IsRequestAnswered origin name limits escape page held new request is.0) same is.1,
      ),
      is.2,
    )
of_request origin name limits escape page old middle new message request (Ok (ToForward forward)) same received within
    names is = to_forward origin name old middle new message request forward same received within names is
of_request origin name limits escape page old middle new message request (Ok (ToRender rendering)) same received within
    names is = to_render origin name limits old middle new message request rendering same received within is
of_request origin name limits escape page old middle new message request (Err error) same received within names is = (
  is.0,
  inr (
    request,
    received,
    within,
    subst (λ held. IsRequestAnswered origin name limits escape page held new request is.0) same is.1,
  ),
)

-- a message that isn't read has no request
pub refused : (old new : Held) (message : Message (List ℕ)) (error : SnapshotError) → new ≡ old
    → IsUnreadable message error → IsAnsweredUnread old new message (refusal error)
refused old new message error same is = (same, (error, is, refl))

module _ (origin : Past) (name : HistoryName) (limits : Limits) (escape : Escape) (page : Option (List ℕ)) (old new : Held)
    (message : Message (List ℕ)) where
  -- where nothing was begun, the answer is that memory ran out
  pub begins_503 : {E : Type 0} (result : Result Begun E) → IsMessageUnanswered origin name limits escape page old new message
      → IfOk result (IsBegunOf (error_reply 503 OutOfMemory))
      → IfOk result (BeginsMessage origin name limits escape page old new message)
  begins_503 (Ok (Answered response)) left is = (left.0, left.1, inr is)
  begins_503 (Ok (Refused refused)) left is = (left.0, left.1, inr is)
  begins_503 (Ok (ToForward forward)) left is = absurd is
  begins_503 (Ok (ToRender rendering)) left is = absurd is
  begins_503 (Err error) left is = tt
