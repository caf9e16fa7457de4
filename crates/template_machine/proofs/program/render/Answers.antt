use Rattle.std.proofs.Common.{string_bytes}
use Rattle.std.proofs.lemmas.Result.{IfOk-weaker}
use Rattle.data_tree.specs.RequestData.{root_of}
use Rattle.template_code.specs.Machine.{Runs}
use Rattle.template_tree.specs.Source.{with_escape}
use Rattle.template_machine.specs.Program.{ProgramParts, IsMeant}
use Rattle.template_machine.proofs.Refusals.{run_means}
use Rattle.template_machine.proofs.program.render.Goals as goal

pub returns-clause-meant : goal.returns-clause-meant
returns-clause-meant c =
    let i = c.program.inside in
    let program : ProgramParts = record { source = with_escape i.escape (string_bytes i.source); code = i.verified } in
    let root = root_of c.args.request.now in
    rw (← c.program.view_is)
    (IfOk-weaker c.run.result (λ rendered. Runs i.verified root rendered.steps (string_bytes rendered.text))
    (λ rendered. IsMeant program.source root (string_bytes rendered.text))
    (λ rendered r. run_means program root rendered.steps (string_bytes rendered.text) c.program.invariant.0
    c.args.request.now.no_empty_name r)
    c.run.ensures.run)
