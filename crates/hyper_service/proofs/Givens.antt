-- What is given to a message, once the journal's limit is kept, and once an exchange has given what came of it.
use Rattle.std.proofs.Common.{◌≡◌, ◌⊎◌, ◌∙◌, ℕ, List, Some, Result, Ok, Err, IfErr, IfOk, inl, inr, refl, sym, subst}
use Rattle.std.specs.declared.alloc.AllocError.{AllocError}
use Rattle.answering.proofs.RenderedLemmas.{is_begun, is_not_begun}
use Rattle.answering.specs.Forwarding.{IsFinished, IsToForward}
use Rattle.answering.specs.Rendering.{IsRenderedReply, IsResponseOfRendered, IsToRender}
use Rattle.answering.specs.declared.forward.Forward.{Forward}
use Rattle.answering.specs.declared.rendering.Rendering.{Rendering}
use Rattle.http.specs.declared.request.Request.{Request as Message}
use Rattle.http.specs.declared.response.Response.{Response}
use Rattle.http_connections.specs.Sent.{IsProgress}
use Rattle.http_connections.specs.declared.request.progress.Progress.{Progress}
use Rattle.http_connections.specs.declared.request.progress.Progress.TheVariants.{Answered, Pending}
use Rattle.hyper_service.specs.Given.{IsGivenToMessage, IsJournalKept, IsLeft, IsPassedTo, IsUnanswered, SiteRules, IsRenderedBy}
use Rattle.hyper_service.specs.Inner.Begins.{Begins, IsForwardBegun, IsForwardingBy, IsRenderBegun, IsRenderingBy}
use Rattle.hyper_service.specs.Inner.Exchange.{CanPoll, Gives}
use Rattle.hyper_service.specs.declared.render_exchange.RenderExchange.{RenderExchange}
use Rattle.hyper_service.specs.declared.site_exchange.SiteExchange.{SiteExchange}
use Rattle.hyper_service.specs.declared.site_exchange.SiteExchange.TheVariants as kind
use Rattle.hyper_service.specs.declared.site_exchange.SiteReply.TheVariants as came
use Rattle.logbook.specs.Pages.{Book as HistoryName}
use Rattle.mapping_model.specs.declared.reply.Reply.{Reply}
use Rattle.mock_request.specs.Request.{Request}
use Rattle.proxy_client.specs.declared.error.ProxyError.{ProxyError}
use Rattle.request_journal.specs.Past.{Past}
use Rattle.request_journal.specs.declared.input.BookInput.TheVariants.{ClearJournal}
use Rattle.shared_book.specs.Held.{Held}
use Rattle.shared_book.specs.Lent.{LendsApplied}
use Rattle.shared_book.specs.Seen.{HasMadeNoCall}
use Rattle.stub_book.specs.declared.error.BookError.{BookError}

some_same : {A : Type 0} (a b : A) → Some a ≡ Some b → a ≡ b
some_same a b e = cc

-- the answer came, and the seat is as it was
pub at_unchanged_seat : {Made Refusal : Type 0} (P : Made → Type 0) (seat : Held) (result : Result Made Refusal)
    → IfOk result P → IfOk result (λ made. (seat ≡ seat) × P made)
at_unchanged_seat P seat (Ok made) is = (refl, is)
at_unchanged_seat P seat (Err error) is = tt

module _ (rules : SiteRules) where
  -- there is no answer, and the journal's limit is kept
  pub left_with : {Refusal T : Type 0} (P : Refusal → Type 0) (old middle new : Held) (message : Message (List ℕ))
      → IsJournalKept rules.journal rules.origin rules.history middle new → (result : Result T Refusal)
      → IfErr result (λ error. P error × IsLeft rules old middle message)
      → IfErr result (λ error. P error × IsUnanswered rules old new message)
  left_with P old middle new message kept (Ok begun) left = tt
  left_with P old middle new message kept (Err error) left =
      (left.0, record { middle = middle; left = left.1; kept = kept })

  -- it is to be forwarded, and there is no answer to that
  pub left_unfinished : {Refusal T : Type 0} (P : Refusal → Type 0) (old middle new : Held) (message : Message (List ℕ))
      (forward : Forward) → IsToForward rules.origin rules.history old middle message forward
      → (result : Result T Refusal)
      → IfErr result (λ error. P error × HasMadeNoCall rules.origin rules.history middle new)
      → IfErr result (λ error. P error × IsLeft rules old new message)
  left_unfinished P old middle new message forward to_forward (Ok begun) left = tt
  left_unfinished P old middle new message forward to_forward (Err error) left =
      (left.0, inr (forward, middle, to_forward, left.1))

  -- it is to be rendered, and there is no answer to that
  pub left_unrendered : {Refusal T : Type 0} (P : Refusal → Type 0) (old new : Held) (message : Message (List ℕ))
      (rendering : Rendering) → IsToRender rules.origin rules.history rules.limits old new message rendering
      → (result : Result T Refusal) → IfErr result P
      → IfErr result (λ error. P error × IsLeft rules old new message)
  left_unrendered P old new message rendering to_render (Ok begun) left = tt
  left_unrendered P old new message rendering to_render (Err error) left = (
    left,
    inl (is_not_begun rules.origin rules.history rules.limits rules.escape rules.page old new message rendering
        to_render),
  )

module _ (rules : SiteRules) {E : Type 0} (reaches : List ℕ → Type 0) (sends : List ℕ → Request → E → Type 0)
    (exchanged : E → Result Reply ProxyError → Type 0) where
  module _ {V : Type 0} (rendered : V → Result Reply AllocError → Type 0) where
    module _ (can_poll : E → Type 0) (can_run : V → Type 0) where
      -- what becomes of a message that isn't answered at once
      passed : (old middle new : Held) (message : Message (List ℕ))
          → IsJournalKept rules.journal rules.origin rules.history middle new → (exchange : SiteExchange E V)
          → ((forward : Forward) × (begun : Held) × IsToForward rules.origin rules.history old begun message forward
          × ((middle ≡ begun) × IsForwardingBy rules reaches sends exchanged can_poll forward exchange))
          ⊎ ((rendering : Rendering)
          × IsToRender rules.origin rules.history rules.limits old middle message rendering
          × IsRenderingBy rendered can_run rendering exchange)
          → IsPassedTo rules reaches sends exchanged rendered old new message exchange
          × CanPoll can_poll can_run exchange
      passed old middle new message kept (kind.Forwarding exchange) (inl given) =
          let held = given.3.1.0 in (
            record {
              forward = given.0;
              held = held;
              middle = given.1;
              begun = given.2;
              kept = subst (λ held. IsJournalKept rules.journal rules.origin rules.history held new) given.3.0 kept;
              sent = given.3.1.1;
            },
            (rw held refl, given.3.1.2),
          )
      passed old middle new message kept (kind.Rendering exchange) (inl given) = absurd given.3.1
      passed old middle new message kept (kind.Forwarding exchange) (inr given) = absurd given.2
      passed old middle new message kept (kind.Rendering exchange) (inr given) =
          let held = given.2.0 in (
            record {
              rendering = given.0;
              held = held;
              middle = middle;
              begun = given.1;
              kept = kept;
              genuine = given.2.1;
            },
            (rw held refl, given.2.2),
          )

      begun_with : (old middle new : Held) (message : Message (List ℕ))
          → IsJournalKept rules.journal rules.origin rules.history middle new
          → (begun : Progress (SiteExchange E V) (List ℕ))
          → Begins rules reaches sends exchanged can_poll rendered can_run old middle message begun
          → IsProgress (IsGivenToMessage rules reaches sends exchanged old new)
          (IsPassedTo rules reaches sends exchanged rendered old new) (CanPoll can_poll can_run) message begun
      begun_with old middle new message kept (Answered response) (inl begun) =
          inl (record { middle = middle; begun = begun; kept = kept })
      begun_with old middle new message kept (Answered response) (inr given) = inr (inl (record {
        forward = given.0;
        begun = given.1;
        to_forward = given.2;
        forwarded = given.3.0;
        failed = given.3.1;
        middle = middle;
        finished = given.3.2;
        kept = kept;
      }))
      begun_with old middle new message kept (Pending exchange) given =
          passed old middle new message kept exchange.value given

      pub kept_with : {Refusal : Type 0} (old middle new : Held) (message : Message (List ℕ))
          → IsJournalKept rules.journal rules.origin rules.history middle new
          → (result : Result (Progress (SiteExchange E V) (List ℕ)) Refusal)
          → IfOk result (Begins rules reaches sends exchanged can_poll rendered can_run old middle message)
          → IfOk result (IsProgress (IsGivenToMessage rules reaches sends exchanged old new)
          (IsPassedTo rules reaches sends exchanged rendered old new) (CanPoll can_poll can_run) message)
      kept_with old middle new message kept (Ok begun) given = begun_with old middle new message kept begun given
      kept_with old middle new message kept (Err error) given = tt

      -- it is to be forwarded, and that was begun
      pub forward_begun : (old middle new : Held) (message : Message (List ℕ)) (forward : Forward)
          → IsToForward rules.origin rules.history old middle message forward → {Refusal : Type 0}
          → (result : Result (Progress (SiteExchange E V) (List ℕ)) Refusal)
          → IfOk result (IsForwardBegun rules reaches sends exchanged can_poll middle new forward)
          → IfOk result (Begins rules reaches sends exchanged can_poll rendered can_run old new message)
      forward_begun old middle new message forward to_forward (Ok (Answered response)) begun =
          inr (forward, middle, to_forward, begun)
      forward_begun old middle new message forward to_forward (Ok (Pending exchange)) begun =
          inl (forward, middle, to_forward, begun)
      forward_begun old middle new message forward to_forward (Err error) begun = tt

      -- it is to be rendered, and that was begun
      pub render_begun : (old new : Held) (message : Message (List ℕ)) (rendering : Rendering)
          → IsToRender rules.origin rules.history rules.limits old new message rendering → {Refusal : Type 0}
          → (result : Result (Progress (SiteExchange E V) (List ℕ)) Refusal)
          → IfOk result (IsRenderBegun rendered can_run rendering)
          → IfOk result (Begins rules reaches sends exchanged can_poll rendered can_run old new message)
      render_begun old new message rendering to_render (Ok (Answered response)) begun =
          inl (is_begun rules.origin rules.history rules.limits rules.escape rules.page old new message rendering
          to_render
          begun.0 response begun.1 begun.2)
      render_begun old new message rendering to_render (Ok (Pending exchange)) begun =
          inr (rendering, to_render, begun)
      render_begun old new message rendering to_render (Err error) begun = tt

    -- what was rendered of a message is its reply
    is_rendered : (old new : Held) (message : Message (List ℕ)) (exchange : RenderExchange V)
        → (by : IsRenderedBy rules rendered old new message exchange) → (rendering : Rendering)
        → (reply : Result Reply AllocError) → exchange.rendering ≡ Some rendering → rendered exchange.run reply
        → (by.rendering ≡ rendering) × IfOk reply (IsRenderedReply by.rendering)
    is_rendered old new message exchange by rendering reply held came =
        (some_same by.rendering rendering (sym by.held ∙ held), by.genuine reply came)

    -- the exchange has given the reply that was rendered
    pub given_rendered : (old new : Held) (message : Message (List ℕ)) (first_old first_new : Held)
        (exchange : SiteExchange E V) → new ≡ old → first_old.number ≡ old.number
        → IsPassedTo rules reaches sends exchanged rendered first_old first_new message exchange
        → (rendering : Rendering) (reply : Result Reply AllocError)
        → Gives exchanged rendered exchange (came.Rendered (record { rendering = rendering; reply = reply }))
        → {Refusal : Type 0} (result : Result (Response (List ℕ)) Refusal)
        → IfOk result (IsResponseOfRendered reply)
        → IfOk result (IsGivenToMessage rules reaches sends exchanged old new message)
    given_rendered old new message first_old first_new (kind.Rendering exchange) unchanged seat by rendering reply given
        (Ok response) of =
        let is = is_rendered first_old first_new message exchange by rendering reply given.0 given.1 in
        inr (inr (inr (record {
          first_old = first_old;
          first_new = first_new;
          same = seat;
          given = record {
            middle = by.middle;
            begun = is_begun rules.origin rules.history rules.limits rules.escape rules.page first_old by.middle message
                by.rendering by.begun reply response is.1 of;
            kept = by.kept;
          };
          unchanged = unchanged;
        })))
    given_rendered old new message first_old first_new (kind.Forwarding exchange) unchanged seat by rendering reply given
        (Ok response) of = absurd given
    given_rendered old new message first_old first_new exchange unchanged seat by rendering reply given (Err error) of =
        tt

    -- the exchange has given what came of forwarding it
    pub given_later : (old new : Held) (message : Message (List ℕ)) (first_old first_new : Held)
        (exchange : SiteExchange E V) → first_old.number ≡ old.number
        → IsPassedTo rules reaches sends exchanged rendered first_old first_new message exchange
        → (forward : Forward) (forwarded : Result Reply ProxyError)
        → Gives exchanged rendered exchange (came.Forwarded (record { forward = forward; reply = forwarded }))
        → {Refusal : Type 0} (result : Result (Response (List ℕ)) Refusal)
        → IfOk result (IsFinished rules.origin rules.history old new forward forwarded)
        → IfOk result (IsGivenToMessage rules reaches sends exchanged old new message)
    given_later old new message first_old first_new (kind.Forwarding exchange) seat by forward forwarded given
        (Ok response) finished =
        let same = some_same by.forward forward (sym by.held ∙ given.0) in
        inr (inr (inl (record {
          exchange = exchange;
          first_old = first_old;
          first_new = first_new;
          same = seat;
          by = by;
          forwarded = forwarded;
          came = given.1;
          finished = subst (λ f. IsFinished rules.origin rules.history old new f forwarded response) (sym same)
              finished;
        })))
    given_later old new message first_old first_new (kind.Rendering exchange) seat by forward forwarded given
        (Ok response) finished = absurd given
    given_later old new message first_old first_new exchange seat by forward forwarded given (Err error) finished = tt

module _ (origin : Past) (name : HistoryName) (old new : Held) where
  -- the call that clears the journal was refused
  pub refused : (error : BookError) → LendsApplied origin name old new ClearJournal (Err error)
      → HasMadeNoCall origin name old new
  refused error (inl memory) = inl memory.1
  refused error (inr seen) = inr seen.0
