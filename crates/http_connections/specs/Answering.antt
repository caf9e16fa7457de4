-- What a request has become once it was handed to the service of a connection.
use Rattle.std.specs.Prelude.{◌≡◌, ℕ, List, IfOk, IfSome}
use Rattle.http.specs.Request.{body_of, head_of}
use Rattle.http.specs.declared.request.Request.{Request}
use Rattle.http.specs.declared.response.Response.{Response}
use Rattle.http_connections.specs.Content.{IsAnsweredAtOnce, IsContentAtOnce, IsNewFor}
use Rattle.http_connections.specs.Sent.{Giver}
use Rattle.http_connections.specs.Site.{giver_of}
use Rattle.http_connections.specs.declared.request.gathering.Gathering.{Gathering}
use Rattle.http_connections.specs.declared.request.service.Answering.{Answering}
use Rattle.http_connections.specs.declared.request.service.Answering.TheVariants.{Pending, Made, Waiting}
use Rattle.http_messages.specs.TransferCoding.{HasOtherCoding}
use Rattle.hyper.specs.declared.body.incoming.Incoming.{Incoming}

module _ {R A Seat Reply Exchange Content I : Type 0} (IsEmpty : Content → Type 0)
    (gives : Giver A → Request (List ℕ) → Response Content → Type 0)
    (forwards : Giver A → Request (List ℕ) → Exchange → Type 0) (by : Giver A) (request : Request (Incoming I)) where
  -- It is answered at once, or forwarded, where nothing of its content has to come; else its content is gathered from
  -- the start, unless it is in another coding. The site and the seat stay the same.
  abbrev pub IsCalled : Answering R A (Gathering R (Incoming I)) Seat Reply Exchange Content → Type 0
  IsCalled (Made made) = IfSome made (λ result. IfOk result (IsAnsweredAtOnce IsEmpty (gives by) request))
  IsCalled (Waiting waiting) =
      (head_of waiting.value.request ≡ head_of request) × IsNewFor waiting.value.content (body_of request)
      × ¬ (HasOtherCoding (head_of request).headers) × (giver_of waiting.value.slot ≡ by)
  IsCalled (Pending pending) =
      ((content : List ℕ) × IsContentAtOnce (body_of request) content
      × forwards by (record { head = head_of request; body = content }) pending.exchange.value)
      × (giver_of pending.slot ≡ by)
