use Rattle.std.proofs.Common.{◌≡◌, take, ◌+◌, All, ap, subst, sym, arith, ◌∙◌, ◌∷◌, ◌++◌, []}
use Rattle.std.proofs.lemmas.List.{take_all, map-append}
use Rattle.response_json.specs.Draft.{IsFirstError, values_of, line_with, lines_with}
use Rattle.response_json.proofs.Firsts.{err_is, line_at_fails, one_more, one_taken}
use Rattle.template_machine.specs.Program.{IsProgramText}
use Rattle.response_json.proofs.draft.compile_lines.Goals as goal

pub returns-in_err-compile_line-clause-err : goal.returns-in_err-compile_line-clause-err
returns-in_err-compile_line-clause-err c =
    err_is c.from_residual-in_err-compile_line.result c.in_err-compile_line.field-0.0
    (IsFirstError (values_of (lines_with c.args.escape c.args.lines.now))) c.from_residual-in_err-compile_line.ensures.1
    (line_at_fails c.args.escape c.args.lines.now c.loop-line.line-index c.line-item.result
    _ (omega arith) c.line-item.is
    c.loop-line.invariant.programs c.in_err-compile_line.ensures.err)

pub loop-line-preserved : goal.loop-line-preserved
loop-line-preserved c =
    let lines = c.args.lines.now in
    let escape = c.args.escape in
    let i = c.loop-line.line-index in
    let line = c.line-item.result in
    let more : take (i + 1) lines ≡ take i lines ++ line ∷ [] =
    one_taken lines i line (omega arith) c.line-item.is in
    record {
      compiled = c.in_ok-push.ensures
          ∙ ap (λ ls. ls ++ c.in_ok-compile_line.field-0 ∷ []) c.loop-line.invariant.compiled
          ∙ ap (λ l. lines_with escape (take i lines) ++ l ∷ []) c.in_ok-compile_line.ensures.value
          ∙ sym (map-append (line_with escape) (take i lines) (line ∷ [])) ∙ ap (lines_with escape) (sym more);
      programs = subst (λ ls. All IsProgramText (values_of (lines_with escape ls))) (sym more)
          (one_more escape (take i lines) line c.loop-line.invariant.programs c.in_ok-compile_line.ensures.ok);
    }

pub returns-clause-ok : goal.returns-clause-ok
returns-clause-ok c =
    subst (λ ls. All IsProgramText (values_of (lines_with c.args.escape ls)))
    (take_all c.loop-line.line-index c.args.lines.now (omega arith))
    c.loop-line.invariant.programs
