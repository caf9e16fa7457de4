-- Those so far may take what was counted, and all of them so much more than those that are left.
use Rattle.std.proofs.Common.{◌+◌, ℕ, drop}
use Rattle.request_log.specs.Taken.{MayTake}
use Rattle.stub_response.specs.Response.{templates_of}
use Rattle.request_log.proofs.over_budget.taken_by.Given as goal

abbrev pub invariant-loop-header : goal.invariant-loop-header
invariant-loop-header l =
    (x y : ℕ) → MayTake (templates_of (drop l.header-index l.fn.headers) l.fn.body) l.fn.size x y
    → MayTake (templates_of l.fn.headers l.fn.body) l.fn.size (l.taken.steps + x) (l.taken.bytes + y)
