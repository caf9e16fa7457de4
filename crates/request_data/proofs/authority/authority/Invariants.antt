use Rattle.std.proofs.Common.{◌≡◌, [], take, codes}
use Rattle.mock_request.specs.HeaderFields.{texts_of}
use Rattle.request_data.proofs.authority.authority.Given as goal

abbrev pub invariant-loop-index : goal.invariant-loop-index
invariant-loop-index l = texts_of (codes "host") (take l.index l.snapshot.headers) ≡ []
