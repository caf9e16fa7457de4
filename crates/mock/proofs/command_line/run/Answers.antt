use Rattle.std.proofs.Common.{◌∙◌, map, string_bytes, sym}
use Rattle.mock.proofs.HelpAsked.{help_asked}
use Rattle.mock.proofs.OtherCommands.{helps_no_command, helps_no_flag, own_asked, own_is_no_command, own_is_no_help}
use Rattle.mock.proofs.command_line.run.Goals as goal

pub returns-then-ask_for_own-clause-command : goal.returns-then-ask_for_own-clause-command
returns-then-ask_for_own-clause-command g c = λ escape asked asks.
    absurd (own_is_no_command (map string_bytes c.args.arguments.now)
    (sym c.ask_for_own.ensures ∙ c.if-ask_for_own.true) escape asked asks)

pub returns-then-ask_for_own-clause-help : goal.returns-then-ask_for_own-clause-help
returns-then-ask_for_own-clause-help g c = λ calls.
    absurd (own_is_no_help (map string_bytes c.args.arguments.now)
    (sym c.ask_for_own.ensures ∙ c.if-ask_for_own.true) calls)

pub returns-then-ask_for_own-clause-invalid : goal.returns-then-ask_for_own-clause-invalid
returns-then-ask_for_own-clause-invalid g c = λ invalid not_own no_help.
    absurd (not_own (own_asked (map string_bytes c.args.arguments.now)
    (sym c.ask_for_own.ensures ∙ c.if-ask_for_own.true)))

pub returns-then-ask_for_own-clause-streams : goal.returns-then-ask_for_own-clause-streams
returns-then-ask_for_own-clause-streams g c = λ not_own.
    absurd (not_own (own_asked (map string_bytes c.args.arguments.now)
    (sym c.ask_for_own.ensures ∙ c.if-ask_for_own.true)))

pub returns-then-ask_to_help-clause-command : goal.returns-then-ask_to_help-clause-command
returns-then-ask_to_help-clause-command g c = λ escape asked asks.
    absurd (helps_no_command (map string_bytes c.args.arguments.now)
    (sym c.ask_to_help.ensures ∙ c.if-ask_to_help.true) escape asked asks)

pub returns-then-ask_to_help-clause-help : goal.returns-then-ask_to_help-clause-help
returns-then-ask_to_help-clause-help g c = λ calls.
    absurd (helps_no_flag (map string_bytes c.args.arguments.now)
    (sym c.ask_to_help.ensures ∙ c.if-ask_to_help.true) calls)

pub returns-then-ask_to_help-clause-invalid : goal.returns-then-ask_to_help-clause-invalid
returns-then-ask_to_help-clause-invalid g c = λ invalid not_own no_help.
    absurd (no_help (help_asked (map string_bytes c.args.arguments.now)
    (sym c.ask_to_help.ensures ∙ c.if-ask_to_help.true)))
