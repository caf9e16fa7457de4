-- The response to what was forwarded.
use Rattle.std.proofs.Common.{◌≡◌, ℕ, List, Ok, Err, refl, subst, inl, inr}
use Rattle.std.specs.Prelude.{Result, IfOk}
use Rattle.error_code.specs.declared.error_code.ErrorCode.{ErrorCode}
use Rattle.error_code.specs.declared.error_code.ErrorCode.TheVariants as code
use Rattle.http.specs.declared.response.Response.{Response}
use Rattle.answering.specs.Forwarding.{IsFinished, IsForwardReply, record_of, reply_unrecorded}
use Rattle.answering.specs.Reply.{IsResponseOfReply}
use Rattle.answering.specs.declared.forward.Forward.{Forward}
use Rattle.logbook.specs.Pages.{Book as HistoryName}
use Rattle.mapping_model.specs.declared.reply.Reply.{Reply}
use Rattle.request_journal.specs.Past.{Past}
use Rattle.request_journal.specs.declared.input.BookInput.{BookInput}
use Rattle.shared_book.specs.Held.{Held}
use Rattle.shared_book.specs.Refused.{IsRefused}
use Rattle.shared_book.specs.Seen.{HasMadeNoCall}
use Rattle.stub_response.specs.ErrorReply.{error_reply}

-- where the record was refused, the reply or the reason is sent
pub unrecorded : {E : Type 0} (origin : Past) (name : HistoryName) (old new : Held) (forward : Forward) (sent : Reply)
    (wait_ms : ℕ)
    (asked : BookInput) (reason : ErrorCode) (response : Response (List ℕ))
    (result : Result (Response (List ℕ)) E)
    → asked ≡ record_of forward sent wait_ms → IsRefused origin name old new asked reason
    → IsResponseOfReply sent response
    → ((r : Reply) → IsResponseOfReply r response → IfOk result (IsResponseOfReply (reply_unrecorded r reason)))
    → IfOk result (IsFinished origin name old new forward (Ok sent))
unrecorded origin name old new forward sent wait_ms asked reason response (Ok made) is why sends makes = (
  reply_unrecorded sent reason,
  (wait_ms, inr (inl (reason, subst (λ a. IsRefused origin name old new a reason) is why, refl))),
  makes sent sends,
)
unrecorded origin name old new forward sent wait_ms asked reason response (Err error) is why sends makes = tt

-- a call that was refused was not made
pub no_call : (origin : Past) (name : HistoryName) (old new : Held) (asked : BookInput) (reason : ErrorCode)
    → IsRefused origin name old new asked reason → HasMadeNoCall origin name old new
no_call origin name old new asked reason (inl memory) = inl memory.1
no_call origin name old new asked reason (inr refused) = inr refused.0

-- memory may run out whatever came of it, and then nothing is recorded
pub no_memory : (origin : Past) (name : HistoryName) (old new : Held) (forward : Forward) (sent : Reply)
    → HasMadeNoCall origin name old new
    → IsForwardReply origin name old new forward (Ok sent) (error_reply 503 code.OutOfMemory)
no_memory origin name old new forward sent none = (0, inr (inr (none, refl)))
