use Rattle.std.proofs.Common.{refl, subst}
use Rattle.command_output.specs.Lines.{error_line}
use Rattle.command_output.specs.Output.{AppendsFront}
use Rattle.hyper_service.proofs.report.report_end.Goals as goal

pub returns-in-OutOfMemory-clause-written : goal.returns-in-OutOfMemory-clause-written
returns-in-OutOfMemory-clause-written g c =
    let holds = g.E.Write.contents in
    rw c.in-OutOfMemory.is (
      refl,
      subst (λ error. AppendsFront (holds c.args.err.now) (holds c.report.new.err) (error_line error))
          c.from.ensures c.report.ensures,
    )
