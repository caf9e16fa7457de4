-- A response that is rendered after its serve is one that may be given at once.
use Rattle.std.proofs.Common.{ℕ, List, Ok, Err, refl, subst, inl, inr}
use Rattle.std.specs.Prelude.{Option, Result, IfOk}
use Rattle.std.specs.declared.alloc.AllocError.{AllocError}
use Rattle.error_code.specs.declared.error_code.ErrorCode.TheVariants.{OutOfMemory}
use Rattle.http.specs.declared.request.Request.{Request as Message}
use Rattle.http.specs.declared.response.Response.{Response}
use Rattle.answering.specs.Answering.{IsMessageAnswered, IsMessageUnanswered, IsMessageReply}
use Rattle.answering.specs.Rendering.{IsRenderedReply, IsResponseOfRendered, IsToRender, rendering_receipt}
use Rattle.answering.specs.declared.rendering.Rendering.{Rendering}
use Rattle.logbook.specs.Pages.{Book as HistoryName}
use Rattle.mapping_model.specs.declared.reply.Reply.{Reply}
use Rattle.request_journal.specs.Past.{Past}
use Rattle.shared_book.specs.Held.{Held}
use Rattle.stub_response.specs.ErrorReply.{error_reply}
use Rattle.stub_response.specs.Response.{IsRendering}
use Rattle.stub_response.specs.declared.limits.Limits.{Limits}
use Rattle.template_tree.specs.declared.escape.Escape.{Escape}

module _ (origin : Past) (name : HistoryName) (limits : Limits) (escape : Escape) (page : Option (List ℕ)) (old new : Held)
    (message : Message (List ℕ))
    (rendering : Rendering) (begun : IsToRender origin name limits old new message rendering) where
  -- a reply of the version of the receipt
  is_reply : (reply : Reply) → IsRenderedReply rendering reply
      → IsMessageReply origin name limits escape page old new message reply
  is_reply reply is =
      let right = subst (λ kept. IsRendering kept rendering.captured.mapping.spec rendering.request reply)
      begun.kept_to is in
      inr (
        rendering.request,
        begun.received,
        begun.within,
        inr (
          begun.no_admin_call,
          inl (rendering_receipt rendering, begun.served, right),
        ),
      )

  -- memory ran out
  no_memory : IsMessageReply origin name limits escape page old new message (error_reply 503 OutOfMemory)
  no_memory =
      inr (
        rendering.request,
        begun.received,
        begun.within,
        inr (
          begun.no_admin_call,
          inr (OutOfMemory, inr (refl, (rendering_receipt rendering, begun.served)), refl),
        ),
      )

  pub is_begun : (rendered : Result Reply AllocError) (response : Response (List ℕ))
      → IfOk rendered (IsRenderedReply rendering) → IsResponseOfRendered rendered response
      → IsMessageAnswered origin name limits escape page old new message response
  is_begun (Ok reply) response is of = (reply, is_reply reply is, of)
  is_begun (Err error) response is of = (error_reply 503 OutOfMemory, no_memory, inl of)

  pub is_not_begun : IsMessageUnanswered origin name limits escape page old new message
  is_not_begun = (error_reply 503 OutOfMemory, no_memory)
