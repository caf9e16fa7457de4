use Rattle.std.proofs.Common.{◌≡◌, Result, Err, ap}
use Rattle.std.proofs.lemmas.Result.{err_from_is_err_and}
use Rattle.template_tree.specs.Source.{with_escape}
use Rattle.template_tree.specs.Template.{tree_of}
use Rattle.template_tree.specs.declared.error.ParseError.{ParseError}
use Rattle.template_tree.specs.declared.template.Template.{Template}
use Rattle.template_machine.specs.Inner.Conversions.{of_parse}
use Rattle.template_machine.proofs.Programs.{program_of}
use Rattle.template_machine.proofs.Refusals.{parse_error, compile_error, short_code}
use Rattle.template_machine.proofs.program.verified_code.Goals as goal

pub returns-in_err-template-clause-err : goal.returns-in_err-template-clause-err
returns-in_err-template-clause-err c =
    let p = err_from_is_err_and c.from_residual.result c.from_residual.ensures.1 in
    let e = c.in_err-template.ensures in
    rw (p.1, p.2) (parse_error (with_escape c.args.escape c.args.text.now) c.in_err-template.field-0.0
    e.wrong e.every_tree)

same_error : (d e : ParseError) → ◌≡◌ {A = Result Template ParseError} (Err d) (Err e) → d ≡ e
same_error d e h = cc

pub returns-in_err-template-clause-too_long : goal.returns-in_err-template-clause-too_long
returns-in_err-template-clause-too_long c = λ long.
    let p = err_from_is_err_and c.from_residual.result c.from_residual.ensures.1 in
    let same = same_error c.in_err-template.field-0.0 _ (c.in_err-template.ensures.too_long long) in
    rw (p.1, p.2) (ap (λ e. Err (of_parse e)) same)

pub returns-in_err-code-clause-err : goal.returns-in_err-code-clause-err
returns-in_err-code-clause-err c =
    let p = err_from_is_err_and c.from_residual-in_err-code.result c.from_residual-in_err-code.ensures.1 in
    let t = c.in_ok-template.ensures in
    rw (p.1, p.2)
    (compile_error (with_escape c.args.escape c.args.text.now) (tree_of c.in_ok-template.template)
    c.in_err-code.field-0.0 t.found t.every_tree
    (λ long. c.in_err-code.ensures.too_long.0 (ap Err long)))

pub returns-clause-ok : goal.returns-clause-ok
returns-clause-ok c =
    let tree = tree_of c.in_ok-template.template in
    let found = c.in_ok-template.ensures.found in
    let e = c.in_ok-code.ensures in
    record {
      whole = (tree, found, short_code _ tree e.well_formed e.translated);
      program = program_of _ _ _ tree c.in_ok-verify.ensures.same found e.translated e.runs;
    }
