-- How a request is answered that is forwarded to the upstream of a recording: with the reply of the upstream,
-- which is recorded.
use Rattle.std.specs.Prelude.{◌≡◌, ◌⊎◌, ◌≤◌, ℕ, Bool, List, Ok, Err, Result, false, if◌then◌else◌, length, true, All}
use Rattle.admin_routes.specs.Routes.{IsAdmin}
use Rattle.answering.specs.Reply.{IsResponseOfReply}
use Rattle.answering.specs.declared.forward.Forward.{Forward}
use Rattle.error_code.specs.declared.error_code.ErrorCode.{ErrorCode}
use Rattle.error_code.specs.declared.error_code.ErrorCode.TheVariants as code
use Rattle.http.specs.Request.{body_of}
use Rattle.http.specs.declared.request.Request.{Request as Message}
use Rattle.http.specs.declared.response.Response.{Response}
use Rattle.http_header.specs.FieldName.{IsHeaderName}
use Rattle.http_messages.specs.Received.{IsReceived}
use Rattle.logbook.specs.Pages.{Book as HistoryName}
use Rattle.mapping_model.specs.declared.reply.Reply.{Reply}
use Rattle.mock_request.specs.declared.snapshot.TheConstants.{BODY_LIMIT}
use Rattle.proxy_client.specs.declared.error.ProxyError.{ProxyError}
use Rattle.proxy_client.specs.declared.error.ProxyError.TheVariants.{UpstreamFailed, OutOfMemory}
use Rattle.request_journal.specs.Input.{IsAsked}
use Rattle.request_journal.specs.Past.{Past}
use Rattle.request_journal.specs.declared.event.Event.TheVariants as event
use Rattle.request_journal.specs.declared.event.ServeAnswer.TheVariants.{Proxy}
use Rattle.request_journal.specs.declared.input.BookInput.{BookInput}
use Rattle.request_journal.specs.declared.input.BookInput.TheVariants as input
use Rattle.shared_book.specs.Held.{Held}
use Rattle.shared_book.specs.Lent.{Gains}
use Rattle.shared_book.specs.Refused.{IsRefused}
use Rattle.shared_book.specs.Seen.{HasMadeNoCall}
use Rattle.shared_book.specs.declared.receipt.Receipt.{Receipt}
use Rattle.stub_book.specs.Growth.{IsServed}
use Rattle.stub_response.specs.ErrorReply.{error_reply}

-- the receipt of the serve of what is to be forwarded
abbrev pub serve_receipt : Forward → Receipt
serve_receipt forward =
    record { number = forward.number; event = event.Serve forward.request (Proxy forward.target) }

-- the message is a request that is no admin call, and was served: what is to be forwarded has the number, the request
-- and the upstream of the receipt
pub record IsToForward (origin : Past) (name : HistoryName) (old new : Held) (message : Message (List ℕ)) (forward : Forward)
    : Type 0 where
  pub received : IsReceived message forward.request
  pub within : length (body_of message) ≤ BODY_LIMIT
  pub no_admin_call : ¬ (IsAdmin forward.request.url)
  pub served : Gains origin name old new (IsServed forward.request) (serve_receipt forward)
  -- as those of each received request
  pub names : All (λ header. IsHeaderName header.name) forward.request.headers

-- what the book is asked for when the reply has come, after `wait_ms`: a record under the serve's number, of its
-- request and this reply
abbrev pub record_of : Forward → Reply → ℕ → BookInput
record_of forward sent wait_ms =
    input.Record forward.number
    (record { request = forward.request; reply = sent; started_ms = forward.started_ms; wait_ms = wait_ms })

-- no recording takes the exchange: none is on, another one was started later, or it is full
abbrev pub is_not_taken : ErrorCode → Bool
is_not_taken code.NotRecording = true
is_not_taken code.RecordingFull = true
is_not_taken other = false

-- the reply where nothing is recorded for that reason: the upstream's all the same, or the reason
abbrev pub reply_unrecorded : Reply → ErrorCode → Reply
reply_unrecorded sent reason = if is_not_taken reason then sent else error_reply 503 reason

-- the reply that came is sent, and its record is the seat's next call in the one history; or the book refused the
-- record; or memory ran out, and nothing is recorded
abbrev pub IsRecordReply : Past → HistoryName → Held → Held → BookInput → Reply → Reply → Type 0
IsRecordReply origin name old new asked sent reply =
    ((reply ≡ sent) × ((receipt : Receipt) × Gains origin name old new (IsAsked asked) receipt))
    ⊎ (((reason : ErrorCode) × IsRefused origin name old new asked reason
    × (reply ≡ reply_unrecorded sent reason))
    ⊎ (HasMadeNoCall origin name old new × (reply ≡ error_reply 503 code.OutOfMemory)))

-- the reply to the client where the upstream gave none
abbrev pub failure_reply : ProxyError → Reply
failure_reply (UpstreamFailed failure) = error_reply 502 code.UpstreamFailed
failure_reply OutOfMemory = error_reply 503 code.OutOfMemory

-- the reply to what was forwarded. Where none came, nothing is recorded; there, too, memory may run out.
abbrev pub IsForwardReply : Past → HistoryName → Held → Held → Forward → Result Reply ProxyError → Reply → Type 0
IsForwardReply origin name old new forward (Ok sent) reply =
    (wait_ms : ℕ) × IsRecordReply origin name old new (record_of forward sent wait_ms) sent reply
IsForwardReply origin name old new forward (Err error) reply =
    (new ≡ old) × ((reply ≡ failure_reply error) ⊎ (reply ≡ error_reply 503 code.OutOfMemory))

-- the response is that of such a reply
abbrev pub IsFinished
    : Past → HistoryName → Held → Held → Forward → Result Reply ProxyError → Response (List ℕ) → Type 0
IsFinished origin name old new forward forwarded response =
    (reply : Reply) × IsForwardReply origin name old new forward forwarded reply × IsResponseOfReply reply response
