use Rattle.std.proofs.Common.{refl, inl}
use Rattle.std.proofs.lemmas.Result.{err_from_is_err_and}
use Rattle.template_tree.specs.Source.{with_escape}
use Rattle.mock_program.proofs.RequestRefusals.{of_request}
use Rattle.mock_program.proofs.render.render_request.Goals as goal

pub returns-in_err-program-clause-refusal : goal.returns-in_err-program-clause-refusal
returns-in_err-program-clause-refusal c =
    let p = err_from_is_err_and c.from_residual.result c.from_residual.ensures.1 in
    rw (p.1, p.2) (inl (c.in_err-program.field-0.0, c.in_err-program.ensures.reported, refl))

pub returns-in_err-data-clause-refusal : goal.returns-in_err-data-clause-refusal
returns-in_err-data-clause-refusal c =
    let p = err_from_is_err_and c.from_residual-in_err-data.result c.from_residual-in_err-data.ensures.1 in
    rw (p.1, p.2) (of_request (with_escape c.args.escape c.args.template.now) c.args.method.now c.args.target.now
    c.in_err-data.field-0.0 c.in_ok-program.ensures.ok c.in_err-data.ensures.refusal)
