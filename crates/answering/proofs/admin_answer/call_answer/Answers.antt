use Rattle.std.proofs.Common.{inr}
use Rattle.answering.specs.Admin.{IsAnsweredCall, reporting}
use Rattle.answering.proofs.ResultLemmas.{refused_with}
use Rattle.answering.proofs.admin_answer.call_answer.Goals as goal

pub returns-in-Err : goal.returns-in-Err
returns-in-Err g c =
    refused_with (IsAnsweredCall g.L.Origin.origin g.L.Naming.book c.args.seat.now c.answer_admin.new.seat c.args.call)
    (reporting c.in-Err.error.code) c.reporting.result
    (λ reply why. inr (c.in-Err.error.code, c.in-Err.ensures.refused, why)) c.reporting.ensures
