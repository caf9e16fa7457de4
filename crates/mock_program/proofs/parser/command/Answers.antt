use Rattle.std.proofs.Common.{◌≡◌, rules, ap, ap₂, ◌∙◌}
use Rattle.std.proofs.lemmas.Result.{IfOk-weaker}
use Rattle.clap.specs.Words.{App, app_of, with_subcommand}
use Rattle.mock_program.specs.Inner.Parser.{program_app}
use Rattle.mock_program.proofs.parser.command.Goals as goal

pub returns : goal.returns
returns c =
    let program_is : app_of c.disable_help_subcommand.result ≡ program_app =
    rw (c.disable_help_subcommand.ensures, c.subcommand_required.ensures, c.arg_required_else_help.ensures)
    (rw (c.override_help.ensures, c.version.ensures) (search rules)) in
    let with_render = c.in_ok-subcommand.ensures.shape c.in_ok-render_command.ensures.local
    ∙ ap₂ with_subcommand program_is (ap (λ (a : App). a.top) c.in_ok-render_command.ensures.app) in
    let with_check = c.in_ok-subcommand-2.ensures.shape c.in_ok-check_command.ensures.local
    ∙ ap₂ with_subcommand with_render (ap (λ (a : App). a.top) c.in_ok-check_command.ensures.app) in
    let with_answer = c.in_ok-subcommand-3.ensures.shape c.in_ok-answer_command.ensures.local
    ∙ ap₂ with_subcommand with_check (ap (λ (a : App). a.top) c.in_ok-answer_command.ensures.app) in
    IfOk-weaker c.subcommand-4.result _ _
    (λ made added. added.shape c.in_ok-explain_command.ensures.local
    ∙ ap₂ with_subcommand with_answer (ap (λ (a : App). a.top) c.in_ok-explain_command.ensures.app))
    c.subcommand-4.ensures
