-- What a site may answer to a message, at once or after it was forwarded or rendered, and what its seat is before and
-- after that.
use Rattle.std.specs.Prelude.{◌≡◌, ◌⊎◌, ℕ, List, IfOk, IsErr, IsSome, Option, Result, Some}
use Rattle.std.specs.Arc.{arc_value}
use Rattle.std.specs.declared.alloc.AllocError.{AllocError}
use Rattle.answering.specs.Answering.{IsMessageAnswered, IsMessageUnanswered}
use Rattle.answering.specs.Forwarding.{IsFinished, IsToForward}
use Rattle.answering.specs.Rendering.{IsRenderedReply, IsResponseOfRendered, IsToRender}
use Rattle.answering.specs.declared.forward.Forward.{Forward}
use Rattle.answering.specs.declared.rendering.Rendering.{Rendering}
use Rattle.http.specs.declared.request.Request.{Request as Message}
use Rattle.http.specs.declared.response.Response.{Response}
use Rattle.hyper_service.specs.declared.forward_exchange.ForwardExchange.{ForwardExchange}
use Rattle.hyper_service.specs.declared.render_exchange.RenderExchange.{RenderExchange}
use Rattle.hyper_service.specs.declared.site_answers.SiteAnswers.{SiteAnswers}
use Rattle.hyper_service.specs.declared.site_exchange.SiteExchange.{SiteExchange}
use Rattle.hyper_service.specs.declared.site_exchange.SiteExchange.TheVariants as kind
use Rattle.hyper_service.specs.declared.site_exchange.SiteReply.{SiteReply}
use Rattle.hyper_service.specs.declared.site_exchange.SiteReply.TheVariants.{Forwarded, Rendered}
use Rattle.logbook.specs.Pages.{Book as HistoryName}
use Rattle.mapping_model.specs.declared.reply.Reply.{Reply}
use Rattle.mock_request.specs.Request.{Request}
use Rattle.proxy_client.specs.Messages.{IsSomeReply}
use Rattle.proxy_client.specs.declared.error.ProxyError.{ProxyError}
use Rattle.request_journal.specs.Input.{IsAsked}
use Rattle.request_journal.specs.Past.{Past}
use Rattle.request_journal.specs.declared.input.BookInput.TheVariants.{ClearJournal}
use Rattle.shared_book.specs.Held.{Held}
use Rattle.shared_book.specs.Lent.{Gains}
use Rattle.shared_book.specs.Seen.{HasMadeNoCall}
use Rattle.shared_book.specs.declared.receipt.Receipt.{Receipt}
use Rattle.stub_response.specs.declared.limits.Limits.{Limits}
use Rattle.template_tree.specs.declared.escape.Escape.{Escape}

-- what the answers of a site depend on, beside its book: the past that this had when it was shared, the name of its
-- history, and how many requests the journal shows at most, where it is cleared then
pub record SiteRules : Type 0 where
  pub origin : Past
  pub history : HistoryName
  pub limits : Limits
  pub escape : Escape
  pub page : Option (List ℕ)
  pub journal : Option ℕ

-- those of the site that answers
abbrev pub rules_of : {L G C F V N : Type 0} → Past → HistoryName → SiteAnswers L G C F V N → SiteRules
rules_of origin name answers =
    record {
      origin = origin;
      history = name;
      limits = (arc_value answers.site).limits;
      escape = (arc_value answers.site).escape;
      page = (arc_value answers.site).page;
      journal = answers.journal.limit;
    }

-- The seat is as before. Where the journal has a limit, it may have been cleared, which is the seat's next call; or that
-- was refused, and the seat has made no call.
abbrev pub IsJournalKept : Option ℕ → Past → HistoryName → Held → Held → Type 0
IsJournalKept limit origin name old new =
    (new ≡ old)
    ⊎ (IsSome limit × (HasMadeNoCall origin name old new
    ⊎ ((receipt : Receipt) × Gains origin name old new (IsAsked ClearJournal) receipt)))

-- The response to what came of an exchange: of a request that was forwarded, the one to that, and its record is the one
-- call that may be made; of one that was rendered, that of its reply, and the seat is as it was.
abbrev pub IsFinishedBy : Past → HistoryName → Held → Held → SiteReply → Response (List ℕ) → Type 0
IsFinishedBy origin name old new (Forwarded forwarded) response =
    IsFinished origin name old new forwarded.forward forwarded.reply response
IsFinishedBy origin name old new (Rendered rendered) response =
    (new ≡ old) × IsResponseOfRendered rendered.reply response

module _ (rules : SiteRules) where
  -- the message was answered at once
  pub record IsGivenAtOnce (old new : Held) (message : Message (List ℕ)) (response : Response (List ℕ)) : Type 0 where
    pub middle : Held
    pub begun : IsMessageAnswered rules.origin rules.history rules.limits rules.escape rules.page old middle message response
    pub kept : IsJournalKept rules.journal rules.origin rules.history middle new

  -- The response was rendered after the call that served the message, and is one that this call may have given at once.
  -- That call was of the same seat, which need not be as it left it. Now nothing is asked of the book.
  pub record IsGivenRendered (old new : Held) (message : Message (List ℕ)) (response : Response (List ℕ))
      : Type 0 where
    pub first_old : Held
    pub first_new : Held
    pub same : first_old.number ≡ old.number
    pub given : IsGivenAtOnce first_old first_new message response
    pub unchanged : new ≡ old

  -- The message was served, and the exchange holds what is kept of it: all that this gives is the reply of the version in
  -- the receipt of that serve.
  pub record IsRenderedBy {V : Type 0} (rendered : V → Result Reply AllocError → Type 0) (old new : Held)
      (message : Message (List ℕ)) (exchange : RenderExchange V) : Type 0 where
    pub rendering : Rendering
    pub held : exchange.rendering ≡ Some rendering
    pub middle : Held
    pub begun : IsToRender rules.origin rules.history rules.limits old middle message rendering
    pub kept : IsJournalKept rules.journal rules.origin rules.history middle new
    pub genuine : (given : Result Reply AllocError) → rendered exchange.run given
        → IfOk given (IsRenderedReply rendering)

  -- there is no memory for an answer; or for that to a message that couldn't be forwarded
  abbrev pub IsLeft : Held → Held → Message (List ℕ) → Type 0
  IsLeft old new message =
      IsMessageUnanswered rules.origin rules.history rules.limits rules.escape rules.page old new message
      ⊎ ((forward : Forward) × (begun : Held) × IsToForward rules.origin rules.history old begun message forward
      × HasMadeNoCall rules.origin rules.history begun new)

  -- what that leaves of the seat
  pub record IsUnanswered (old new : Held) (message : Message (List ℕ)) : Type 0 where
    pub middle : Held
    pub left : IsLeft old middle message
    pub kept : IsJournalKept rules.journal rules.origin rules.history middle new

  -- `reaches` says which upstreams requests are forwarded to, `sends` which request an exchange sends to which
  -- upstream, and `exchanged` what an exchange may give: those of what forwards the requests of the site.
  module _ {E : Type 0} (reaches : List ℕ → Type 0) (sends : List ℕ → Request → E → Type 0)
      (exchanged : E → Result Reply ProxyError → Type 0) where
    -- an exchange that sends the request of what is to be forwarded to the upstream of it
    pub record IsSentBy (forward : Forward) (exchange : E) : Type 0 where
      pub reached : reaches forward.target
      pub sent : sends forward.target forward.request exchange
      pub genuine : (forwarded : Result Reply ProxyError) → exchanged exchange forwarded → IfOk forwarded IsSomeReply

    -- the message was begun to be forwarded by the exchange, which holds what is kept of it
    pub record IsBegunToForward (old new : Held) (message : Message (List ℕ)) (exchange : ForwardExchange E) : Type 0 where
      pub forward : Forward
      pub held : exchange.forward ≡ Some forward
      pub middle : Held
      pub begun : IsToForward rules.origin rules.history old middle message forward
      pub kept : IsJournalKept rules.journal rules.origin rules.history middle new
      pub sent : IsSentBy forward exchange.exchange

    -- the message was to be forwarded, there was no exchange, and this is the response to that
    pub record IsGivenWithout (old new : Held) (message : Message (List ℕ)) (response : Response (List ℕ))
        : Type 0 where
      pub forward : Forward
      pub begun : Held
      pub to_forward : IsToForward rules.origin rules.history old begun message forward
      pub forwarded : Result Reply ProxyError
      pub failed : IsErr forwarded
      pub middle : Held
      pub finished : IsFinished rules.origin rules.history begun middle forward forwarded response
      pub kept : IsJournalKept rules.journal rules.origin rules.history middle new

    -- The message was forwarded, the exchange gave this, and the response is the one to that. Both calls are of the same
    -- seat, and in what a seat has seen are all entries of its own (`IsIn`). It isn't held meanwhile, so before the
    -- second it need not be as the first left it.
    pub record IsGivenLater (old new : Held) (message : Message (List ℕ)) (response : Response (List ℕ)) : Type 0 where
      pub exchange : ForwardExchange E
      pub first_old : Held
      pub first_new : Held
      pub same : first_old.number ≡ old.number
      pub by : IsBegunToForward first_old first_new message exchange
      pub forwarded : Result Reply ProxyError
      pub came : exchanged exchange.exchange forwarded
      pub finished : IsFinished rules.origin rules.history old new by.forward forwarded response

    abbrev pub IsGivenToMessage : Held → Held → Message (List ℕ) → Response (List ℕ) → Type 0
    IsGivenToMessage old new message response =
        IsGivenAtOnce old new message response
        ⊎ (IsGivenWithout old new message response
        ⊎ (IsGivenLater old new message response ⊎ IsGivenRendered old new message response))

    -- the message was begun to be forwarded, or was served and begun to be rendered, by the exchange
    abbrev pub IsPassedTo : {V : Type 0} → (V → Result Reply AllocError → Type 0) → Held → Held → Message (List ℕ)
        → SiteExchange E V → Type 0
    IsPassedTo rendered old new message (kind.Forwarding forwards) = IsBegunToForward old new message forwards
    IsPassedTo rendered old new message (kind.Rendering renders) = IsRenderedBy rendered old new message renders
