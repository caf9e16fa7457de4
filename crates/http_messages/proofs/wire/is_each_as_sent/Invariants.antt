use Rattle.std.proofs.Common.{All}
use Rattle.http_header.specs.HeaderMap.{pairs}
use Rattle.http_messages.specs.Inner.AsSent.{IsAsSent}
use Rattle.http_messages.proofs.wire.is_each_as_sent.Given as goal

-- no header so far keeps them from being sent as they are
abbrev pub invariant-loop-name : goal.invariant-loop-name
invariant-loop-name l = All IsAsSent l.name-iterator → All IsAsSent (pairs l.fn.headers)
