use Rattle.std.proofs.Common.{All, subst, sym, ◌++◌, [], if◌then◌else◌}
use Rattle.response_json.specs.Draft.{values_of, body_templates, lines_with, body_with}
use Rattle.response_json.proofs.Firsts.{no_programs}
use Rattle.template_machine.specs.Program.{IsProgramText}
use Rattle.response_json.proofs.draft.ResponseDraft.compile.Goals as goal
use Rattle.response_json.proofs.draft.ResponseDraft.compile.Goals.{then-is_templated+in_ok-content, else-is_templated}

pub returns-clause-ok : goal.returns-clause-ok
returns-clause-ok c =
    let d = c.args.self in
    let e = c.args.escape in
    elim c.if-is_templated.branch [
      | then-is_templated+in_ok-content w ↦
          subst (λ b. All IsProgramText
          (if b then values_of (lines_with e d.headers) ++ body_templates (body_with e d.body) else []))
          (sym w.if-is_templated.true) w.in_ok-content.ensures.ok
      | else-is_templated w ↦
          subst (λ b. All IsProgramText
          (if b then values_of (lines_with e d.headers) ++ body_templates (body_with e d.body) else []))
          (sym w.if-is_templated.false) no_programs
    ]
