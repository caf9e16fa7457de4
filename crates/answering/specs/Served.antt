-- How a request is answered that is no admin call.
use Rattle.std.specs.Prelude.{◌≡◌, ◌⊎◌}
use Rattle.error_code.specs.declared.error_code.ErrorCode.{ErrorCode}
use Rattle.error_code.specs.declared.error_code.ErrorCode.TheVariants.{OutOfMemory}
use Rattle.logbook.specs.Pages.{Book as HistoryName}
use Rattle.mapping_model.specs.declared.reply.Reply.{Reply}
use Rattle.mock_request.specs.Request.{Request}
use Rattle.request_journal.specs.Past.{Past}
use Rattle.request_journal.specs.declared.event.Event.{Event}
use Rattle.request_journal.specs.declared.event.Event.TheVariants as event
use Rattle.request_journal.specs.declared.event.ServeAnswer.{ServeAnswer}
use Rattle.request_journal.specs.declared.event.ServeAnswer.TheVariants.{Stub, Proxy, Unmatched}
use Rattle.shared_book.specs.Held.{Held}
use Rattle.shared_book.specs.Lent.{Gains}
use Rattle.shared_book.specs.Refused.{IsServeRefused}
use Rattle.shared_book.specs.declared.receipt.Receipt.{Receipt}
use Rattle.stub_book.specs.Growth.{IsServed}
use Rattle.stub_response.specs.ErrorReply.{unmatched_reply}
use Rattle.stub_response.specs.Response.{IsRendering}
use Rattle.stub_response.specs.declared.limits.Limits.{Limits}

-- the reply to a request that the book answered so: the response of the version that was captured then. One that is to
-- be forwarded has none without its upstream.
abbrev pub IsServeReply : Limits → Request → ServeAnswer → Reply → Type 0
IsServeReply limits request (Stub captured) reply = IsRendering limits captured.mapping.spec request reply
IsServeReply limits request (Proxy target) reply = ⊥
IsServeReply limits request Unmatched reply = reply ≡ unmatched_reply

abbrev pub IsEventReply : Limits → Event → Reply → Type 0
IsEventReply limits (event.Serve request answer) reply = IsServeReply limits request answer reply
IsEventReply limits other reply = ⊥

-- the request was served, and this is the reply by the event in its receipt
abbrev pub IsServedWith : Past → HistoryName → Limits → Held → Held → Request → Reply → Type 0
IsServedWith origin name limits old new request reply =
    (receipt : Receipt) × Gains origin name old new (IsServed request) receipt × IsEventReply limits receipt.event reply

-- the request wasn't served; or memory ran out while its reply was made, and the serve stands
abbrev pub IsNotServed : Past → HistoryName → Held → Held → Request → ErrorCode → Type 0
IsNotServed origin name old new request reason =
    IsServeRefused origin name old new reason
    ⊎ ((reason ≡ OutOfMemory) × ((receipt : Receipt) × Gains origin name old new (IsServed request) receipt))
