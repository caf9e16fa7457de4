use Rattle.std.proofs.Common.{◌≡◌}
use Rattle.http_header.specs.HeaderMap.{pairs}
use Rattle.mock_request.specs.Request.{headers_of}
use Rattle.recorder.specs.Connection.{is_named_by_connection}
use Rattle.recorder.proofs.connection.is_named_by_reply.Given as goal

abbrev pub invariant-loop-field : goal.invariant-loop-field
invariant-loop-field l =
    is_named_by_connection (headers_of l.field-iterator) l.name
    ≡ is_named_by_connection (headers_of (pairs l.received)) l.name
