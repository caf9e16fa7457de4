-- How a request is answered whose response takes long to render, and so is rendered after the serve.
use Rattle.std.specs.Prelude.{◌≡◌, ◌⊎◌, ◌≤◌, ℕ, Err, List, Ok, Result, length}
use Rattle.std.specs.declared.alloc.AllocError.{AllocError}
use Rattle.admin_routes.specs.Routes.{IsAdmin}
use Rattle.answering.specs.Reply.{IsResponseOfReply}
use Rattle.answering.specs.declared.rendering.Rendering.{Rendering}
use Rattle.error_code.specs.declared.error_code.ErrorCode.TheVariants.{OutOfMemory}
use Rattle.http.specs.Request.{body_of}
use Rattle.http.specs.declared.request.Request.{Request as Message}
use Rattle.http.specs.declared.response.Response.{Response}
use Rattle.http_messages.specs.Received.{IsReceived}
use Rattle.logbook.specs.Pages.{Book as HistoryName}
use Rattle.mapping_model.specs.declared.reply.Reply.{Reply}
use Rattle.mock_request.specs.declared.snapshot.TheConstants.{BODY_LIMIT}
use Rattle.request_journal.specs.Past.{Past}
use Rattle.request_journal.specs.declared.event.Event.TheVariants as event
use Rattle.request_journal.specs.declared.event.ServeAnswer.TheVariants.{Stub}
use Rattle.shared_book.specs.Held.{Held}
use Rattle.shared_book.specs.Lent.{Gains}
use Rattle.shared_book.specs.declared.receipt.Receipt.{Receipt}
use Rattle.stub_book.specs.Growth.{IsServed}
use Rattle.stub_response.specs.ErrorReply.{error_reply}
use Rattle.stub_response.specs.Response.{IsRendering}
use Rattle.stub_response.specs.declared.limits.Limits.{Limits}

-- the receipt of the serve of what is to be rendered
abbrev pub rendering_receipt : Rendering → Receipt
rendering_receipt rendering =
    record { number = rendering.number; event = event.Serve rendering.request (Stub rendering.captured) }

-- the message is a request that is no admin call, and was served: what is to be rendered has the number, the request and
-- the version of the mapping of the receipt
pub record IsToRender (origin : Past) (name : HistoryName) (limits : Limits) (old new : Held) (message : Message (List ℕ))
    (rendering : Rendering) : Type 0 where
  pub received : IsReceived message rendering.request
  pub within : length (body_of message) ≤ BODY_LIMIT
  pub no_admin_call : ¬ (IsAdmin rendering.request.url)
  pub served : Gains origin name old new (IsServed rendering.request) (rendering_receipt rendering)
  pub kept_to : rendering.limits ≡ limits

-- the reply of that very version to that very request
abbrev pub IsRenderedReply : Rendering → Reply → Type 0
IsRenderedReply rendering reply =
    IsRendering rendering.limits rendering.captured.mapping.spec rendering.request reply

-- the response is that of the reply, or reports that memory ran out
abbrev pub IsResponseOfRendered : Result Reply AllocError → Response (List ℕ) → Type 0
IsResponseOfRendered (Ok reply) response =
    IsResponseOfReply reply response ⊎ IsResponseOfReply (error_reply 503 OutOfMemory) response
IsResponseOfRendered (Err error) response = IsResponseOfReply (error_reply 503 OutOfMemory) response
