use Rattle.std.proofs.Common.{◌≡◌, ℕ, List, ◌++◌, refl, rules, ap, ap₂, ◌∙◌, codes, length, string_bytes}
use Rattle.std.proofs.lemmas.Result.{IfOk-weaker}
use Rattle.code_rules.specs.Polynomial.{as_printed}
use Rattle.code_rules.specs.Regions.{budget}
use Rattle.command_output.specs.Lines.{measure_line}
use Rattle.mock_program.specs.Rendering.{Report, report_text}
use Rattle.mock_program.proofs.render.report.Goals as goal

shows : (step_line byte_line : List ℕ) (report : Report)
    → step_line ≡ measure_line (codes "steps") report.steps report.step_budget
    → byte_line ≡ measure_line (codes "bytes") (length report.text) report.byte_budget → step_line ++
    (byte_line ++ (report.text ++ codes "\n")) ≡ report_text report
shows step_line byte_line report steps bytes = rw (steps, bytes) refl

pub returns-clause-run : goal.returns-clause-run
returns-clause-run c =
    let report : Report = record {
      step_budget = as_printed (budget c.args.program.now.code).steps;
      byte_budget = as_printed (budget c.args.program.now.code).bytes;
      steps = c.in_ok-rendered.rendered.steps;
      text = string_bytes c.in_ok-rendered.rendered.text;
    } in
    let long : c.len-written.result ≡ length report.text = search rules in
    let lines = shows (string_bytes c.in_ok-step_line.step_line) (string_bytes c.in_ok-byte_line.byte_line) report
    (c.in_ok-step_line.ensures ∙ ap (measure_line (codes "steps") report.steps)
    (c.steps.ensures ∙ c.budget-budget.ensures.steps))
    (c.in_ok-byte_line.ensures ∙ ap₂ (measure_line (codes "bytes")) long
    (c.bytes.ensures ∙ c.budget-budget.ensures.bytes)) in
    IfOk-weaker c.format.result _ _ (λ printed is. (
      report,
      record {
        meant = c.in_ok-rendered.ensures.meant;
        ran = c.in_ok-rendered.ensures.run;
        step_budget = refl;
        byte_budget = refl;
      },
      is ∙ lines,
    )) c.format.ensures.ok
