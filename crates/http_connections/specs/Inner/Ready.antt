-- Which answer may be polled at first.
use Rattle.std.specs.Prelude.{IsSome, ⊤}
use Rattle.http_connections.specs.declared.request.service.Answering.{Answering}
use Rattle.http_connections.specs.declared.request.service.Answering.TheVariants.{Pending, Made, Waiting}

-- it may be polled, where what gathers content may
abbrev pub IsReady : {R A Seat Reply Exchange Content G : Type 0} → (Exchange → Type 0)
    → Answering R A G Seat Reply Exchange Content → Type 0
IsReady can_poll (Made made) = IsSome made
IsReady can_poll (Waiting waiting) = ⊤
IsReady can_poll (Pending pending) = can_poll pending.exchange.value
