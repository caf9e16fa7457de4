use Rattle.std.proofs.Common.{All, subst, sym, []}
use Rattle.response_json.specs.Draft.{IsFirstError, body_templates, body_with}
use Rattle.response_json.proofs.Firsts.{err_is, first_here, one_program, no_programs}
use Rattle.template_machine.specs.Program.{IsProgramText}
use Rattle.template_machine.specs.Errors.{IsErrorOf}
use Rattle.template_tree.specs.Source.{with_escape}
use Rattle.response_json.proofs.draft.compile_body.Goals as goal
use Rattle.response_json.proofs.draft.compile_body.Goals.{in-Empty, in-Text+in_ok-from_text_with-in-Text, in-Json}
use Rattle.response_json.proofs.draft.compile_body.Goals.{in-Base64}

pub returns-in_err-from_text_with-in-Text-clause-err : goal.returns-in_err-from_text_with-in-Text-clause-err
returns-in_err-from_text_with-in-Text-clause-err c =
    err_is c.from_residual.result c.in_err-from_text_with-in-Text.field-0.0
    (IsFirstError (body_templates (body_with c.args.escape c.args.body)))
    c.from_residual.ensures.1
    (subst (λ b. IsFirstError (body_templates (body_with c.args.escape b)) c.in_err-from_text_with-in-Text.field-0.0)
    (sym c.in-Text.is)
    (first_here [] (with_escape c.args.escape c.in-Text.text) [] _ no_programs
    (subst (λ t. IsErrorOf (with_escape c.args.escape t) c.in_err-from_text_with-in-Text.field-0.0) c.as_str.ensures
    c.in_err-from_text_with-in-Text.ensures.reported)))

pub returns-clause-ok : goal.returns-clause-ok
returns-clause-ok c =
    elim c.match-body.branch [
      | in-Empty w ↦ subst (λ b. All IsProgramText (body_templates (body_with c.args.escape b)))
          (sym w.in-Empty.is) no_programs
      | in-Text+in_ok-from_text_with-in-Text w ↦
          subst (λ b. All IsProgramText (body_templates (body_with c.args.escape b))) (sym w.in-Text.is)
          (one_program (with_escape c.args.escape w.in-Text.text)
          (subst (λ t. IsProgramText (with_escape c.args.escape t)) w.as_str.ensures
          w.in_ok-from_text_with-in-Text.ensures.ok))
      | in-Json w ↦ subst (λ b. All IsProgramText (body_templates (body_with c.args.escape b)))
          (sym w.in-Json.is) no_programs
      | in-Base64 w ↦ subst (λ b. All IsProgramText (body_templates (body_with c.args.escape b)))
          (sym w.in-Base64.is) no_programs
    ]
