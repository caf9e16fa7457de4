use Rattle.std.proofs.Common.{◌≡◌, drop}
use Rattle.recorder.specs.Connection.{is_named_by_connection}
use Rattle.recorder.proofs.connection.is_named_by_request.Given as goal

abbrev pub invariant-loop-index : goal.invariant-loop-index
invariant-loop-index l =
    is_named_by_connection (drop l.index l.request.headers) l.name ≡ is_named_by_connection l.request.headers l.name
