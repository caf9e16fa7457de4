use Rattle.std.proofs.Common.{inr, subst}
use Rattle.command_output.specs.Lines.{error_line}
use Rattle.command_output.specs.Output.{AppendsFront}
use Rattle.hyper_service.proofs.serving.report_unannounced.Goals as goal

pub returns-clause-written : goal.returns-clause-written
returns-clause-written g c =
    let holds = g.E.Write.contents in
    inr (subst (λ error. AppendsFront (holds c.args.err.now) (holds c.report.new.err) (error_line error))
    c.from.ensures c.report.ensures)
