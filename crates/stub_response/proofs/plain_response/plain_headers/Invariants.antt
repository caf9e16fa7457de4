use Rattle.std.proofs.Common.{◌≡◌, map, take}
use Rattle.stub_response.specs.Inner.Plain.{plain_header}
use Rattle.stub_response.specs.Headers.{headers_of}
use Rattle.stub_response.proofs.plain_response.plain_headers.Given as goal

abbrev pub invariant-loop-header : goal.invariant-loop-header
invariant-loop-header l = l.made ≡ headers_of (map plain_header (take l.header-index l.fn.headers))
