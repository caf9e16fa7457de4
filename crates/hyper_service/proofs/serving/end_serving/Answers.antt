use Rattle.std.proofs.Common.{inl, inr, refl, subst}
use Rattle.command_output.specs.Lines.{error_line}
use Rattle.command_output.specs.Output.{AppendsFront}
use Rattle.hyper_service.proofs.serving.end_serving.Goals as goal

pub returns-in-Ok-clause-written : goal.returns-in-Ok-clause-written
returns-in-Ok-clause-written g c =
    inl (record {
      seats = c.in-Ok.field-0.seats.items;
      settled = c.events.result;
      settling = c.events.ensures;
      why = c.in-Ok.field-0.end;
      reported = c.report.ensures.written;
    })

pub returns-in-Err-clause-written : goal.returns-in-Err-clause-written
returns-in-Err-clause-written g c =
    let holds = g.E.Write.contents in
    let written = subst (λ error. AppendsFront (holds c.args.err.now) (holds c.report-in-Err.new.err)
    (error_line error)) c.from.ensures c.report-in-Err.ensures in
    inr (refl, written, refl)
