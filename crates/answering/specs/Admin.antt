-- How an admin call is answered.
use Rattle.std.specs.Prelude.{◌≡◌, ◌⊎◌, ℕ, List, Option, codes, unwrap_or}
use Rattle.admin_answers.specs.Answers.{IsAnsweredByBook, IsUnansweredByBook}
use Rattle.admin_routes.specs.Calls.{IsCall, IsAdminError}
use Rattle.admin_routes.specs.Errors.{error_code_of}
use Rattle.admin_routes.specs.declared.call.AdminCall.{AdminCall}
use Rattle.admin_routes.specs.declared.error.AdminError.{AdminError}
use Rattle.answering.specs.Foreign.{IsForeign}
use Rattle.answering.specs.Page.{IsGivenPage, page_reply}
use Rattle.answering.specs.Reason.{IsRefusalReply}
use Rattle.error_code.specs.Codes.{status_of}
use Rattle.error_code.specs.declared.error_code.ErrorCode.{ErrorCode}
use Rattle.logbook.specs.Pages.{Book as HistoryName}
use Rattle.mapping_model.specs.declared.reply.Reply.{Reply}
use Rattle.mock_request.specs.Request.{Request}
use Rattle.request_journal.specs.Past.{Past}
use Rattle.shared_book.specs.Held.{Held}
use Rattle.stub_response.specs.ErrorReply.{error_reply, json_reply}
use Rattle.template_tree.specs.declared.escape.Escape.{Escape}

-- the reply that reports the error, with its status; 500 for the one that no answer reports, which no admin call has
abbrev pub reporting : ErrorCode → Reply
reporting reason = error_reply (unwrap_or (status_of reason) 500) reason

-- The request is no admin call, which is reported, and the seat is as before. The client of a call that is refused is
-- told why, beside the error.
abbrev pub IsRefusedCall : Escape → Held → Held → Request → Reply → Type 0
IsRefusedCall escape old new request reply =
    (new ≡ old)
    × ((why : AdminError) × IsAdminError escape request.method request.url request.body why
    × IsRefusalReply (reporting (error_code_of why)) reply)

-- it is the call, and its answer is the shared book's, or reports why there is none
abbrev pub IsAnsweredCall : Past → HistoryName → Held → Held → AdminCall → Reply → Type 0
IsAnsweredCall origin name old new call reply =
    IsAnsweredByBook origin name old new call reply
    ⊎ ((reason : ErrorCode) × IsUnansweredByBook origin name old new call reason
    × IsRefusalReply (reporting reason) reply)

-- how a call is answered that asks for no page
abbrev pub IsCallAnswered : Past → HistoryName → Escape → Held → Held → Request → Reply → Type 0
IsCallAnswered origin name escape old new request reply =
    IsRefusedCall escape old new request reply
    ⊎ ((call : AdminCall) × IsCall escape request.method request.url request.body call
    × IsAnsweredCall origin name old new call reply)

-- the request asks for the page, which is answered, and the seat is as before
abbrev pub IsPageAnswered : Option (List ℕ) → Held → Held → Request → Reply → Type 0
IsPageAnswered page old new request reply =
    (bytes : List ℕ) × IsGivenPage page request bytes × (new ≡ old) × (reply ≡ page_reply bytes)

-- how a call is answered that no page of another site makes
abbrev pub IsOwnAnswered : Past → HistoryName → Escape → Option (List ℕ) → Held → Held → Request → Reply → Type 0
IsOwnAnswered origin name escape page old new request reply =
    IsPageAnswered page old new request reply
    ⊎ (((bytes : List ℕ) → ¬ (IsGivenPage page request bytes))
    × IsCallAnswered origin name escape old new request reply)

-- the reply to one that such a page makes, whatever it asks for
abbrev pub foreign_reply : Reply
foreign_reply = json_reply 403 (codes "{\"errors\":[{\"title\":\"not for pages of other sites\"}]}")

-- a page of another site can't steer the server: its call is refused, and the seat is as before
abbrev pub IsAdminAnswered : Past → HistoryName → Escape → Option (List ℕ) → Held → Held → Request → Reply → Type 0
IsAdminAnswered origin name escape page old new request reply =
    (IsForeign request.headers × (new ≡ old) × IsRefusalReply foreign_reply reply)
    ⊎ (¬ (IsForeign request.headers) × IsOwnAnswered origin name escape page old new request reply)
