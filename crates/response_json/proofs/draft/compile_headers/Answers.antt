use Rattle.std.proofs.Common.{All, subst}
use Rattle.response_json.specs.Draft.{values_of, lines_with}
use Rattle.template_machine.specs.Program.{IsProgramText}
use Rattle.response_json.proofs.draft.compile_headers.Goals as goal

pub returns-clause-ok : goal.returns-clause-ok
returns-clause-ok c =
    subst (λ ls. All IsProgramText (values_of (lines_with c.args.escape ls)))
    c.as_slice.ensures.value c.in_ok-compile_lines.ensures.ok
