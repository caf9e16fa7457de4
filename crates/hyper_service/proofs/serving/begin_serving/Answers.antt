use Rattle.std.proofs.Common.{inl, inr, refl, rules, subst}
use Rattle.command_output.specs.Lines.{error_line}
use Rattle.command_output.specs.Output.{AppendsFront}
use Rattle.hyper_service.proofs.Announced.{announced, in_part}
use Rattle.hyper_service.proofs.serving.begin_serving.Goals as goal

pub returns-then-is_err-clause-failed : goal.returns-then-is_err-clause-failed
returns-then-is_err-clause-failed g c origin parts name =
    let holds = g.O.Write.contents in
    let written = in_part c.announce-announced.result (holds c.args.out.now) (holds c.announce-announced.new.out)
    (search rules) c.announce-announced.ensures in
    inl (written, c.report_unannounced.ensures.written, c.report_unannounced.ensures.status)

pub returns-in-Ok-clause-announced : goal.returns-in-Ok-clause-announced
returns-in-Ok-clause-announced g c =
    let holds = g.O.Write.contents in
    announced c.announce-announced.result (holds c.args.out.now) (holds c.announce-announced.new.out) (search rules)
    c.announce-announced.ensures

pub returns-in-Err-clause-failed : goal.returns-in-Err-clause-failed
returns-in-Err-clause-failed g c origin parts name =
    let holds = g.O.Write.contents in
    let line = announced c.announce-announced.result (holds c.args.out.now) (holds c.announce-announced.new.out)
    (search rules) c.announce-announced.ensures in
    let err_holds = g.E.Write.contents in
    let written = subst (λ error. AppendsFront (err_holds c.args.err.now) (err_holds c.report.new.err)
    (error_line error)) c.from.ensures c.report.ensures in
    inr (line.0, c.announce-announced.new.out, line.1, inr (refl, written, refl))
