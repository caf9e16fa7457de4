-- How a message is answered.
use Rattle.std.specs.Prelude.{◌≡◌, ◌⊎◌, ◌<◌, ◌≤◌, ℕ, List, Option, length}
use Rattle.admin_routes.specs.Routes.{IsAdmin}
use Rattle.error_code.specs.declared.error_code.ErrorCode.{ErrorCode}
use Rattle.error_code.specs.declared.error_code.ErrorCode.TheVariants.{BadUrl, OutOfMemory, TooLarge}
use Rattle.http.specs.Request.{body_of}
use Rattle.http.specs.declared.request.Request.{Request as Message}
use Rattle.http.specs.declared.response.Response.{Response}
use Rattle.http_messages.specs.Received.{IsReceived, target_of}
use Rattle.answering.specs.Forwarding.{IsToForward}
use Rattle.answering.specs.Rendering.{IsToRender}
use Rattle.answering.specs.Reply.{IsResponseOfReply}
use Rattle.answering.specs.declared.begun.Begun.{Begun}
use Rattle.answering.specs.declared.begun.Begun.TheVariants.{Answered, Refused, ToForward, ToRender}
use Rattle.logbook.specs.Pages.{Book as HistoryName}
use Rattle.mapping_model.specs.declared.reply.Reply.{Reply}
use Rattle.mock_request.specs.Request.{Request}
use Rattle.mock_request.specs.Target.{HasUrl}
use Rattle.mock_request.specs.declared.error.SnapshotError.{SnapshotError}
use Rattle.mock_request.specs.declared.error.SnapshotError.TheVariants as unread
use Rattle.mock_request.specs.declared.snapshot.TheConstants.{BODY_LIMIT}
use Rattle.request_journal.specs.Past.{Past}
use Rattle.shared_book.specs.Held.{Held}
use Rattle.answering.specs.Admin.{IsAdminAnswered}
use Rattle.answering.specs.Served.{IsServedWith, IsNotServed}
use Rattle.stub_response.specs.ErrorReply.{error_reply}
use Rattle.stub_response.specs.declared.limits.Limits.{Limits}
use Rattle.template_tree.specs.declared.escape.Escape.{Escape}

-- the reply to a request that is no admin call
abbrev pub IsServeAnswered : Past → HistoryName → Limits → Held → Held → Request → Reply → Type 0
IsServeAnswered origin name limits old new request reply =
    IsServedWith origin name limits old new request reply
    ⊎ ((reason : ErrorCode) × IsNotServed origin name old new request reason × (reply ≡ error_reply 503 reason))

-- the reply to a request that isn't forwarded
abbrev pub IsRequestAnswered : Past → HistoryName → Limits → Escape → Option (List ℕ) → Held → Held → Request → Reply → Type 0
IsRequestAnswered origin name limits escape page old new request reply =
    (IsAdmin request.url × IsAdminAnswered origin name escape page old new request reply)
    ⊎ (¬ (IsAdmin request.url) × IsServeAnswered origin name limits old new request reply)

-- the reply to a message that isn't read: its target is bad, or else its body is too large; or memory ran out
abbrev pub refusal : SnapshotError → Reply
refusal unread.BadUrl = error_reply 400 BadUrl
refusal unread.BodyTooLarge = error_reply 413 TooLarge
refusal unread.OutOfMemory = error_reply 503 OutOfMemory

-- why it isn't
abbrev pub IsUnreadable : Message (List ℕ) → SnapshotError → Type 0
IsUnreadable message unread.BadUrl = ¬ (HasUrl (target_of message))
IsUnreadable message unread.BodyTooLarge = HasUrl (target_of message) × (BODY_LIMIT < length (body_of message))
IsUnreadable message unread.OutOfMemory = Unit {0}

-- such a message makes no event
abbrev pub IsAnsweredUnread : Held → Held → Message (List ℕ) → Reply → Type 0
IsAnsweredUnread old new message reply =
    (new ≡ old) × ((error : SnapshotError) × IsUnreadable message error × (reply ≡ refusal error))

abbrev pub IsAnsweredAsRead : Past → HistoryName → Limits → Escape → Option (List ℕ) → Held → Held → Message (List ℕ) → Reply → Type 0
IsAnsweredAsRead origin name limits escape page old new message reply =
    (request : Request) × IsReceived message request × (length (body_of message) ≤ BODY_LIMIT)
    × IsRequestAnswered origin name limits escape page old new request reply

-- the reply to a message that isn't forwarded, and what the seat has gained by it
abbrev pub IsMessageReply : Past → HistoryName → Limits → Escape → Option (List ℕ) → Held → Held → Message (List ℕ) → Reply → Type 0
IsMessageReply origin name limits escape page old new message reply =
    IsAnsweredUnread old new message reply ⊎ IsAnsweredAsRead origin name limits escape page old new message reply

-- the response is that of the reply; or memory ran out while it was written
abbrev pub IsMessageAnswered : Past → HistoryName → Limits → Escape → Option (List ℕ) → Held → Held → Message (List ℕ)
    → Response (List ℕ) → Type 0
IsMessageAnswered origin name limits escape page old new message response =
    (reply : Reply) × IsMessageReply origin name limits escape page old new message reply
    × (IsResponseOfReply reply response ⊎ IsResponseOfReply (error_reply 503 OutOfMemory) response)

-- there is no response, and the seat is as one of its replies leaves it
abbrev pub IsMessageUnanswered : Past → HistoryName → Limits → Escape → Option (List ℕ) → Held → Held → Message (List ℕ) → Type 0
IsMessageUnanswered origin name limits escape page old new message =
    (reply : Reply) × IsMessageReply origin name limits escape page old new message reply

-- what is answered at once, or is to be forwarded or rendered
abbrev pub BeginsMessage : Past → HistoryName → Limits → Escape → Option (List ℕ) → Held → Held → Message (List ℕ) → Begun → Type 0
BeginsMessage origin name limits escape page old new message (Answered response) =
    IsMessageAnswered origin name limits escape page old new message response
BeginsMessage origin name limits escape page old new message (Refused refused) =
    IsMessageAnswered origin name limits escape page old new message refused.value.response
BeginsMessage origin name limits escape page old new message (ToForward forward) =
    IsToForward origin name old new message forward
BeginsMessage origin name limits escape page old new message (ToRender rendering) =
    IsToRender origin name limits old new message rendering
