use Rattle.std.proofs.Common.{take}
use Rattle.std.specs.List.{AllZip}
use Rattle.stub_response.specs.Response.{IsLine, Itself}
use Rattle.stub_response.proofs.plain.plain_headers.Given as goal

abbrev pub invariant-loop-header : goal.invariant-loop-header
invariant-loop-header l =
    AllZip (IsLine Itself) (take l.header-index l.fn.headers) l.made.items
