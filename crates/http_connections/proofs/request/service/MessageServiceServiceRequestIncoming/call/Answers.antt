use Rattle.std.proofs.Common.{inl, rules}
use Rattle.http_connections.proofs.request.service.MessageServiceServiceRequestIncoming.call.Goals as goal

pub returns-then-is_empty-clause-called : goal.returns-then-is_empty-clause-called
returns-then-is_empty-clause-called g c =
    c.at_once.ensures.called (inl (rw c.body.ensures at c.if-is_empty.ensures (search rules), c.new.ensures))
