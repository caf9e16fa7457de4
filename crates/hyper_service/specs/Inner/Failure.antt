-- What comes of a request for which there is no exchange.
use Rattle.std.specs.Prelude.{◌≡◌, IsErr}
use Rattle.answering.specs.declared.forward.Forward.{Forward}
use Rattle.hyper_service.specs.declared.forward_exchange.Forwarded.{Forwarded}

abbrev pub IsFailure : Forward → Forwarded → Type 0
IsFailure forward failed = (failed.forward ≡ forward) × IsErr failed.reply
