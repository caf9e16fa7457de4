-- For private clauses: what a response is, of which no reply was made, and what is to be forwarded or rendered.
use Rattle.std.specs.Prelude.{◌≡◌, ℕ, List}
use Rattle.http.specs.declared.response.Response.{Response}
use Rattle.answering.specs.Forwarding.{serve_receipt}
use Rattle.answering.specs.Rendering.{rendering_receipt}
use Rattle.answering.specs.Reply.{IsResponseOfReply}
use Rattle.answering.specs.declared.begun.Begun.{Begun}
use Rattle.answering.specs.declared.begun.Begun.TheVariants.{Answered, Refused, ToForward, ToRender}
use Rattle.answering.specs.declared.forward.Forward.{Forward}
use Rattle.answering.specs.declared.rendering.Rendering.{Rendering}
use Rattle.logbook.specs.Pages.{Book as HistoryName}
use Rattle.mapping_model.specs.declared.reply.Reply.{Reply}
use Rattle.mock_request.specs.Request.{Request}
use Rattle.request_journal.specs.Past.{Past}
use Rattle.request_journal.specs.declared.event.Event.{Event}
use Rattle.shared_book.specs.Held.{Held}
use Rattle.shared_book.specs.Lent.{Gains}
use Rattle.stub_book.specs.Growth.{IsServed}
use Rattle.stub_response.specs.declared.limits.Limits.{Limits}

-- the response is that of a reply of which this holds
abbrev pub HasReply : (Reply → Type 0) → Response (List ℕ) → Type 0
HasReply Holds response = (reply : Reply) × Holds reply × IsResponseOfReply reply response

-- a response of which the first holds, or what is to be forwarded or rendered, of which the second or the third does
abbrev pub HasBegun : (Reply → Type 0) → (Forward → Type 0) → (Rendering → Type 0) → Begun → Type 0
HasBegun Holds Forwards Renders (Answered response) = HasReply Holds response
HasBegun Holds Forwards Renders (Refused refused) = HasReply Holds refused.value.response
HasBegun Holds Forwards Renders (ToForward forward) = Forwards forward
HasBegun Holds Forwards Renders (ToRender rendering) = Renders rendering

-- the response of this reply
abbrev pub IsBegunOf : Reply → Begun → Type 0
IsBegunOf reply (Answered response) = IsResponseOfReply reply response
IsBegunOf reply (Refused refused) = IsResponseOfReply reply refused.value.response
IsBegunOf reply (ToForward forward) = ⊥
IsBegunOf reply (ToRender rendering) = ⊥

-- it has the number and the event of the receipt
abbrev pub IsForwardOf : ℕ → Event → Forward → Type 0
IsForwardOf number event forward =
    ((serve_receipt forward).number ≡ number) × ((serve_receipt forward).event ≡ event)

-- the request was served, and it is what is to be forwarded
abbrev pub IsServedToForward : Past → HistoryName → Held → Held → Request → Forward → Type 0
IsServedToForward origin name old new request forward =
    (forward.request ≡ request) × Gains origin name old new (IsServed forward.request) (serve_receipt forward)

-- it has the number and the event of the receipt, and keeps to these limits
abbrev pub IsRenderingOf : Limits → ℕ → Event → Rendering → Type 0
IsRenderingOf limits number event rendering =
    ((rendering_receipt rendering).number ≡ number) × ((rendering_receipt rendering).event ≡ event)
    × (rendering.limits ≡ limits)

-- the request was served, and it is what is to be rendered
abbrev pub IsServedToRender : Past → HistoryName → Limits → Held → Held → Request → Rendering → Type 0
IsServedToRender origin name limits old new request rendering =
    (rendering.request ≡ request) × (rendering.limits ≡ limits)
    × Gains origin name old new (IsServed rendering.request) (rendering_receipt rendering)
