use Rattle.std.proofs.Common.{rules}
use Rattle.http_connections.proofs.request.service.MessageService.gathering.Goals as goal

pub too_long-requires : goal.too_long-requires
too_long-requires g c = rw c.body.ensures at c.if-is_too_long.ensures (search rules)
