use Rattle.std.proofs.Common.{take}
use Rattle.std.specs.List.{AllZip}
use Rattle.data_tree.specs.RequestData.{root_of}
use Rattle.stub_response.specs.Response.{IsLine, Rendered}
use Rattle.stub_response.proofs.rendered.rendered_headers.Given as goal

abbrev pub invariant-loop-header : goal.invariant-loop-header
invariant-loop-header l =
    AllZip (IsLine (Rendered (root_of l.fn.request))) (take l.header-index l.fn.headers) l.made.items
