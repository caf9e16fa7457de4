use Rattle.std.proofs.Common.{◌++◌}
use Rattle.std.proofs.lemmas.List.Elements.{All-append}
use Rattle.response_json.specs.Draft.{IsFirstError, values_of, body_templates, lines_with, body_with}
use Rattle.response_json.proofs.Firsts.{err_is, first_of_more, first_after}
use Rattle.template_machine.specs.Program.{IsProgramText}
use Rattle.response_json.proofs.draft.compile_content.Goals as goal

pub returns-in_err-compile_headers-clause-err : goal.returns-in_err-compile_headers-clause-err
returns-in_err-compile_headers-clause-err c =
    err_is c.from_residual.result c.in_err-compile_headers.field-0.0
    (IsFirstError (values_of (lines_with c.args.escape c.args.headers.now)
    ++ body_templates (body_with c.args.escape c.args.body))) c.from_residual.ensures.1
    (first_of_more _ _ _ c.in_err-compile_headers.ensures.err)

pub returns-in_err-compile_body-clause-err : goal.returns-in_err-compile_body-clause-err
returns-in_err-compile_body-clause-err c =
    err_is c.from_residual-in_err-compile_body.result c.in_err-compile_body.field-0.0
    (IsFirstError (values_of (lines_with c.args.escape c.args.headers.now)
    ++ body_templates (body_with c.args.escape c.args.body)))
    c.from_residual-in_err-compile_body.ensures.1
    (first_after _ _ _ c.in_ok-compile_headers.ensures.ok c.in_err-compile_body.ensures.err)

pub returns-clause-ok : goal.returns-clause-ok
returns-clause-ok c =
    All-append IsProgramText (values_of (lines_with c.args.escape c.args.headers.now))
    (body_templates (body_with c.args.escape c.args.body))
    c.in_ok-compile_headers.ensures.ok c.in_ok-compile_body.ensures.ok
