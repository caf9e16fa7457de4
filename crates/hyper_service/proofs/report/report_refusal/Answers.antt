use Rattle.std.proofs.Common.{subst}
use Rattle.command_output.specs.Lines.{error_line}
use Rattle.command_output.specs.Output.{AppendsFront}
use Rattle.hyper_service.proofs.report.report_refusal.Goals as goal

pub returns-in-SeatsMissing : goal.returns-in-SeatsMissing
returns-in-SeatsMissing g c = rw c.in-SeatsMissing.is c.report_line.ensures

pub returns-in-Mismatch : goal.returns-in-Mismatch
returns-in-Mismatch g c = rw c.in-Mismatch.is c.report_line-in-Mismatch.ensures

pub returns-in-OutOfMemory : goal.returns-in-OutOfMemory
returns-in-OutOfMemory g c =
    let holds = g.E.Write.contents in
    rw c.in-OutOfMemory.is (
    subst (λ error. AppendsFront (holds c.args.err.now) (holds c.report.new.err) (error_line error))
    c.from.ensures c.report.ensures
    )
