-- The response to a request, or what is to be forwarded or rendered, by what the call of the seat gives.
use Rattle.std.proofs.Common.{◌≡◌, Ok, Err, refl, subst, sym, inl, inr}
use Rattle.std.specs.Prelude.{Result, IfOk, MatchResult}
use Rattle.error_code.specs.declared.error_code.ErrorCode.TheVariants.{OutOfMemory}
use Rattle.answering.specs.Answering.{IsServeAnswered}
use Rattle.answering.specs.Forwarding.{serve_receipt}
use Rattle.answering.specs.Inner.Sent.{HasBegun, IsForwardOf, IsRenderingOf, IsServedToForward, IsServedToRender}
use Rattle.answering.specs.Rendering.{rendering_receipt}
use Rattle.answering.specs.Served.{IsEventReply}
use Rattle.answering.specs.declared.begun.Begun.{Begun}
use Rattle.answering.specs.declared.begun.Begun.TheVariants.{Answered, Refused, ToForward, ToRender}
use Rattle.answering.specs.declared.forward.Forward.{Forward}
use Rattle.answering.specs.declared.rendering.Rendering.{Rendering}
use Rattle.logbook.specs.Pages.{Book as HistoryName}
use Rattle.mapping_model.specs.declared.reply.Reply.{Reply}
use Rattle.mock_request.specs.Request.{Request}
use Rattle.request_journal.specs.Past.{Past}
use Rattle.shared_book.specs.Held.{Held}
use Rattle.shared_book.specs.Lent.{Gains}
use Rattle.shared_book.specs.declared.receipt.Receipt.{Receipt}
use Rattle.stub_book.specs.Growth.{IsServed}
use Rattle.stub_response.specs.ErrorReply.{error_reply}
use Rattle.stub_response.specs.declared.limits.Limits.{Limits}

-- what is to be forwarded has the receipt of its serve
receipt_of_forward : (receipt : Receipt) (forward : Forward) → IsForwardOf receipt.number receipt.event forward
    → receipt ≡ serve_receipt forward
receipt_of_forward receipt forward is = rw (sym is.0, sym is.1) refl

-- and its request
request_of_forward : (origin : Past) (name : HistoryName) (old new : Held) (request : Request) (forward : Forward)
    → Gains origin name old new (IsServed request) (serve_receipt forward) → forward.request ≡ request
request_of_forward origin name old new request forward gains = let served = gains.asked_for.1 in cc

to_forward : (origin : Past) (name : HistoryName) (old new : Held) (request : Request) (forward : Forward)
    → Gains origin name old new (IsServed request) (serve_receipt forward)
    → IsServedToForward origin name old new request forward
to_forward origin name old new request forward gains =
    let same = request_of_forward origin name old new request forward gains in
    (same, subst (λ r. Gains origin name old new (IsServed r) (serve_receipt forward)) (sym same) gains)

-- what is to be rendered has the receipt of its serve
receipt_of_rendering : (limits : Limits) (receipt : Receipt) (rendering : Rendering)
    → IsRenderingOf limits receipt.number receipt.event rendering → receipt ≡ rendering_receipt rendering
receipt_of_rendering limits receipt rendering is = rw (sym is.0, sym is.1) refl

-- and its request
request_of_rendering : (origin : Past) (name : HistoryName) (old new : Held) (request : Request) (rendering : Rendering)
    → Gains origin name old new (IsServed request) (rendering_receipt rendering) → rendering.request ≡ request
request_of_rendering origin name old new request rendering gains = let served = gains.asked_for.1 in cc

to_render : (origin : Past) (name : HistoryName) (limits : Limits) (old new : Held) (request : Request) (rendering : Rendering)
    → rendering.limits ≡ limits → Gains origin name old new (IsServed request) (rendering_receipt rendering)
    → IsServedToRender origin name limits old new request rendering
to_render origin name limits old new request rendering kept gains =
    let same = request_of_rendering origin name old new request rendering gains in
    (same, kept, subst (λ r. Gains origin name old new (IsServed r) (rendering_receipt rendering)) (sym same) gains)

-- where it was served, by the event of its receipt
pub of_event : {E : Type 0} (origin : Past) (name : HistoryName) (limits : Limits) (old new : Held) (request : Request)
    (receipt : Receipt)
    (result : Result Begun E) → Gains origin name old new (IsServed request) receipt
    → IfOk result (HasBegun (IsEventReply limits receipt.event) (IsForwardOf receipt.number receipt.event)
    (IsRenderingOf limits receipt.number receipt.event))
    → MatchResult result
    (HasBegun (IsServeAnswered origin name limits old new request) (IsServedToForward origin name old new request)
    (IsServedToRender origin name limits old new request))
    (λ _. (reply : Reply) × IsServeAnswered origin name limits old new request reply)
of_event origin name limits old new request receipt (Ok (Answered response)) gains (reply, is, of) =
    (reply, inl (receipt, gains, is), of)
of_event origin name limits old new request receipt (Ok (Refused refused)) gains (reply, is, of) =
    (reply, inl (receipt, gains, is), of)
of_event origin name limits old new request receipt (Ok (ToForward forward)) gains is =
    to_forward origin name old new request forward
    (subst (Gains origin name old new (IsServed request)) (receipt_of_forward receipt forward is) gains)
of_event origin name limits old new request receipt (Ok (ToRender rendering)) gains is =
    to_render origin name limits old new request rendering is.2
    (subst (Gains origin name old new (IsServed request)) (receipt_of_rendering limits receipt rendering is) gains)
of_event origin name limits old new request receipt (Err error) gains h =
    (error_reply 503 OutOfMemory, inr (OutOfMemory, inr (refl, (receipt, gains)), refl))
