-- What becomes of a message, before the journal's limit is kept.
use Rattle.std.specs.Prelude.{◌≡◌, ◌⊎◌, ℕ, List, IfOk, IsErr, Result, Some}
use Rattle.std.specs.declared.alloc.AllocError.{AllocError}
use Rattle.answering.specs.Answering.{BeginsMessage, IsMessageAnswered, IsMessageUnanswered}
use Rattle.answering.specs.Forwarding.{IsFinished, IsToForward}
use Rattle.answering.specs.Rendering.{IsRenderedReply, IsResponseOfRendered, IsToRender}
use Rattle.answering.specs.declared.begun.Begun.{Begun}
use Rattle.answering.specs.declared.forward.Forward.{Forward}
use Rattle.answering.specs.declared.rendering.Rendering.{Rendering}
use Rattle.http.specs.declared.request.Request.{Request as Message}
use Rattle.http_connections.specs.declared.request.progress.Progress.{Progress}
use Rattle.http_connections.specs.declared.request.progress.Progress.TheVariants.{Answered, Pending}
use Rattle.hyper_service.specs.Given.{IsSentBy, SiteRules}
use Rattle.hyper_service.specs.declared.site_exchange.SiteExchange.{SiteExchange}
use Rattle.hyper_service.specs.declared.site_exchange.SiteExchange.TheVariants as kind
use Rattle.mapping_model.specs.declared.reply.Reply.{Reply}
use Rattle.mock_request.specs.Request.{Request}
use Rattle.proxy_client.specs.declared.error.ProxyError.{ProxyError}
use Rattle.shared_book.specs.Held.{Held}

-- what answering makes of the message, by the rules of the site
abbrev pub IsAnswering : SiteRules → Held → Held → Message (List ℕ) → Begun → Type 0
IsAnswering rules old new message begun =
    BeginsMessage rules.origin rules.history rules.limits rules.escape rules.page old new message begun

-- it makes nothing of it
abbrev pub HasNoAnswer : SiteRules → Held → Held → Message (List ℕ) → Type 0
HasNoAnswer rules old new message =
    IsMessageUnanswered rules.origin rules.history rules.limits rules.escape rules.page old new message

module _ {E V : Type 0} (rendered : V → Result Reply AllocError → Type 0) (can_run : V → Type 0) where
  -- the exchange holds what is to be rendered, gives its reply, and may be polled
  abbrev pub IsRenderingBy : Rendering → SiteExchange E V → Type 0
  IsRenderingBy rendering (kind.Forwarding forwards) = ⊥
  IsRenderingBy rendering (kind.Rendering renders) =
      (renders.rendering ≡ Some rendering)
      × ((given : Result Reply AllocError) → rendered renders.run given → IfOk given (IsRenderedReply rendering))
      × can_run renders.run

  -- it is rendered by an exchange; or it was rendered, and this is the response of that
  abbrev pub IsRenderBegun : Rendering → Progress (SiteExchange E V) (List ℕ) → Type 0
  IsRenderBegun rendering (Answered response) =
      (given : Result Reply AllocError) × IfOk given (IsRenderedReply rendering)
      × IsResponseOfRendered given response
  IsRenderBegun rendering (Pending exchange) = IsRenderingBy rendering exchange.value

module _ (rules : SiteRules) {E V : Type 0} (reaches : List ℕ → Type 0) (sends : List ℕ → Request → E → Type 0)
    (exchanged : E → Result Reply ProxyError → Type 0) (can_poll : E → Type 0) where
  -- the exchange holds what is to be forwarded, sends it, and may be polled
  abbrev pub IsForwardingBy : Forward → SiteExchange E V → Type 0
  IsForwardingBy forward (kind.Forwarding forwards) =
      (forwards.forward ≡ Some forward) × IsSentBy rules reaches sends exchanged forward forwards.exchange
      × can_poll forwards.exchange
  IsForwardingBy forward (kind.Rendering renders) = ⊥

  -- it is forwarded by an exchange; or there was none, and this is the response to that
  abbrev pub IsForwardBegun : Held → Held → Forward → Progress (SiteExchange E V) (List ℕ) → Type 0
  IsForwardBegun old new forward (Answered response) =
      (forwarded : Result Reply ProxyError) × IsErr forwarded
      × IsFinished rules.origin rules.history old new forward forwarded response
  IsForwardBegun old new forward (Pending exchange) = (new ≡ old) × IsForwardingBy forward exchange.value

  module _ (rendered : V → Result Reply AllocError → Type 0) (can_run : V → Type 0) where
    -- a message was answered at once; or it is to be forwarded or rendered, and that was begun
    abbrev pub Begins : Held → Held → Message (List ℕ) → Progress (SiteExchange E V) (List ℕ) → Type 0
    Begins old new message (Answered response) =
        IsMessageAnswered rules.origin rules.history rules.limits rules.escape rules.page old new message response
        ⊎ ((forward : Forward) × (middle : Held) × IsToForward rules.origin rules.history old middle message forward
        × IsForwardBegun middle new forward (Answered response))
    Begins old new message (Pending exchange) =
        ((forward : Forward) × (middle : Held) × IsToForward rules.origin rules.history old middle message forward
        × IsForwardBegun middle new forward (Pending exchange))
        ⊎ ((rendering : Rendering)
        × IsToRender rules.origin rules.history rules.limits old new message rendering
        × IsRenderingBy rendered can_run rendering exchange.value)
