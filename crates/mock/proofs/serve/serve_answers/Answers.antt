use Rattle.std.proofs.Common.{inr, subst}
use Rattle.hyper_service.specs.Report.{ReportsEnded}
use Rattle.mock.proofs.serve.serve_answers.Goals as goal

pub returns-in-Ok-clause-written : goal.returns-in-Ok-clause-written
returns-in-Ok-clause-written g c =
    let ended = subst (λ ready. ReportsEnded g.O.Write.contents g.E.Write.contents g.L.Origin.origin g.L.Ledger.parts
    g.L.Naming.book c.begin_serving.new.out c.end_serving.new.out ready c.end_serving.new.err c.end_serving.result)
    c.in-Ok.ensures.silent c.end_serving.ensures.written in
    inr (c.in-Ok.ensures.announced.0, c.begin_serving.new.out, c.in-Ok.ensures.announced.1, ended)

pub returns-in-Err-clause-written : goal.returns-in-Err-clause-written
returns-in-Err-clause-written g c = c.in-Err.ensures.failed g.L.Origin.origin g.L.Ledger.parts g.L.Naming.book
