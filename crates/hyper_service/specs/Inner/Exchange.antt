-- What an exchange of a site gives.
use Rattle.std.specs.Prelude.{◌≡◌, IsSome, Result, Some}
use Rattle.std.specs.declared.alloc.AllocError.{AllocError}
use Rattle.hyper_service.specs.declared.site_exchange.SiteExchange.{SiteExchange}
use Rattle.hyper_service.specs.declared.site_exchange.SiteExchange.TheVariants.{Forwarding, Rendering}
use Rattle.hyper_service.specs.declared.site_exchange.SiteReply.{SiteReply}
use Rattle.hyper_service.specs.declared.site_exchange.SiteReply.TheVariants.{Forwarded, Rendered}
use Rattle.mapping_model.specs.declared.reply.Reply.{Reply}
use Rattle.proxy_client.specs.declared.error.ProxyError.{ProxyError}

module _ {E V : Type 0} where
  -- it has what is kept of the request, and may be polled
  abbrev pub CanPoll : (E → Type 0) → (V → Type 0) → SiteExchange E V → Type 0
  CanPoll forwards renders (Forwarding exchange) = IsSome exchange.forward × forwards exchange.exchange
  CanPoll forwards renders (Rendering exchange) = IsSome exchange.rendering × renders exchange.run

  -- what was kept of the request, and what came of it
  abbrev pub Gives : (E → Result Reply ProxyError → Type 0) → (V → Result Reply AllocError → Type 0)
      → SiteExchange E V → SiteReply → Type 0
  Gives exchanged rendered (Forwarding exchange) (Forwarded reply) =
      (exchange.forward ≡ Some reply.forward) × exchanged exchange.exchange reply.reply
  Gives exchanged rendered (Forwarding exchange) (Rendered reply) = ⊥
  Gives exchanged rendered (Rendering exchange) (Forwarded reply) = ⊥
  Gives exchanged rendered (Rendering exchange) (Rendered reply) =
      (exchange.rendering ≡ Some reply.rendering) × rendered exchange.run reply.reply
