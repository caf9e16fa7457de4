use Rattle.std.proofs.Common.{◌≡◌, fold}
use Rattle.http_messages.specs.Wire.{sent_headers, with_sent}
use Rattle.http_messages.proofs.wire.sent_headers.Given as goal

abbrev pub invariant-loop-name : goal.invariant-loop-name
invariant-loop-name l = fold with_sent l.made l.name-iterator ≡ sent_headers l.fn.headers
