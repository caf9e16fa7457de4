use Rattle.std.proofs.Common.{◌≡◌, ◌++◌, All}
use Rattle.http_header.specs.HeaderMap.{pairs}
use Rattle.mock_request.specs.Request.{headers_of}
use Rattle.recorder.specs.Forwarding.{IsField, passed_back}
use Rattle.recorder.proofs.forwarding.relayed_headers.Given as goal

abbrev pub invariant-loop-name : goal.invariant-loop-name
invariant-loop-name l = record {
  whole : l.relayed.items ++ passed_back (headers_of (pairs l.fn.received)) (headers_of l.name-iterator)
      ≡ passed_back (headers_of (pairs l.fn.received)) (headers_of (pairs l.fn.received));
  fields : All IsField l.relayed.items;
}
