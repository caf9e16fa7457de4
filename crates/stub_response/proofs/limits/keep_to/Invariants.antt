use Rattle.std.proofs.Common.{◌↔◌, drop}
use Rattle.stub_response.specs.Limits.{KeepTo}
use Rattle.stub_response.specs.Response.{templates_of}
use Rattle.stub_response.proofs.limits.keep_to.Given as goal

abbrev pub invariant-loop-header : goal.invariant-loop-header
invariant-loop-header l =
    KeepTo l.rest (templates_of (drop l.header-index l.fn.headers) l.fn.body) l.fn.size
    ↔ KeepTo l.fn.limits (templates_of l.fn.headers l.fn.body) l.fn.size
