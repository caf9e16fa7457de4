use Rattle.std.proofs.Common.{refl, inl, inr}
use Rattle.admin_routes.specs.Errors.{error_code_of}
use Rattle.answering.specs.Admin.{IsCallAnswered, IsAnsweredCall, reporting}
use Rattle.answering.proofs.ResultLemmas.{refused_with, weaker}
use Rattle.answering.proofs.admin_answer.made_answer.Goals as goal

pub returns-in-Ok : goal.returns-in-Ok
returns-in-Ok g c =
    let is = rw (c.method.ensures, c.url.ensures.value, c.body.ensures.value) at c.in-Ok.ensures.ok in
    weaker (IsAnsweredCall g.L.Origin.origin g.L.Naming.book c.args.seat.now c.call_answer.new.seat c.in-Ok.call)
    (IsCallAnswered g.L.Origin.origin g.L.Naming.book c.args.escape c.args.seat.now c.call_answer.new.seat
    c.args.request.now)
    (λ reply answered. inr (c.in-Ok.call, is, answered)) c.call_answer.result c.call_answer.ensures

pub returns-in-Err : goal.returns-in-Err
returns-in-Err g c =
    let is = rw (c.method.ensures, c.url.ensures.value, c.body.ensures.value) at c.in-Err.ensures.error in
    refused_with (IsCallAnswered g.L.Origin.origin g.L.Naming.book c.args.escape c.args.seat.now c.args.seat.now
    c.args.request.now)
    (reporting (error_code_of c.in-Err.error)) c.reporting.result
    (λ reply why. inl (refl, (c.in-Err.error, is, why))) (rw c.error_code.ensures at c.reporting.ensures)
