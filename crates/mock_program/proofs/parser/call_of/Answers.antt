use Rattle.std.proofs.Common.{◌≡◌, List, None, rules, sym, ap, ◌∙◌}
use Rattle.std.specs.Prelude.{option_and_then, option_map}
use Rattle.std.proofs.lemmas.Result.{err_from_is_err_and}
use Rattle.clap.specs.Words.{Row, Text, found_of, is_simple_and_free, rows_of, subcommand_name_of}
use Rattle.mock_program.specs.Inner.Parser.{asked_in}
use Rattle.mock_program.proofs.ParserAnswers.{answers_are, is_judged}
use Rattle.mock_program.proofs.ParserCalls.{found_by, mock_is_simple, named_rows, no_rows, taken_by}
use Rattle.mock_program.proofs.parser.call_of.Goals as goal

pub returns-in_err-matches-clause-err : goal.returns-in_err-matches-clause-err
returns-in_err-matches-clause-err c = λ taken.
    let p = err_from_is_err_and c.from_residual-in_err-matches.result c.from_residual-in_err-matches.ensures.1 in
    let passes = c.in_err-matches.ensures.passes (taken_by _ _ c.in_ok-command.ensures taken) in
    rw (p.1, p.2) passes

pub returns-in-Some-clause-ok : goal.returns-in-Some-clause-ok
returns-in-Some-clause-ok c =
    let entered = (c.in_ok-matches.ensures.matches (mock_is_simple _ c.in_ok-command.ensures)).1 in
    let rows = named_rows c.in_ok-matches.matches c.in-Some.name.now (rows_of (found_of c.in-Some.arguments.now))
    c.in-Some.ensures.name c.in-Some.ensures.rows in
    c.call_in.ensures
    ∙ ap (option_and_then (λ (p : Text × List Row). asked_in p.0 p.1)) (sym rows ∙ entered)
    ∙ found_by _ _ c.in_ok-command.ensures

pub returns-clause-ok : goal.returns-clause-ok
returns-clause-ok c =
    let none : c.subcommand.result ≡ None = search rules in
    let unnamed : None ≡ subcommand_name_of c.in_ok-matches.matches =
    sym (ap (option_map (λ p. p.0.now)) none) ∙ c.subcommand.ensures.name in
    let entered = (c.in_ok-matches.ensures.matches (mock_is_simple _ c.in_ok-command.ensures)).1 in
    ap (option_and_then (λ (p : Text × List Row). asked_in p.0 p.1))
    (sym (no_rows c.in_ok-matches.matches unnamed) ∙ entered)
    ∙ found_by _ _ c.in_ok-command.ensures

pub returns-in_err-matches-clause-kinds : goal.returns-in_err-matches-clause-kinds
returns-in_err-matches-clause-kinds c =
    let p = err_from_is_err_and c.from_residual-in_err-matches.result c.from_residual-in_err-matches.ensures.1 in
    let kinds = c.in_err-matches.ensures.kinds (ap is_simple_and_free c.in_ok-command.ensures ∙ is_judged) in
    rw (p.1, p.2, answers_are _ _ c.in_ok-command.ensures) kinds

pub returns-in-Some-clause-kinds : goal.returns-in-Some-clause-kinds
returns-in-Some-clause-kinds c =
    answers_are _ _ c.in_ok-command.ensures ∙ c.in_ok-matches.ensures.kinds
    (ap is_simple_and_free c.in_ok-command.ensures ∙ is_judged)

pub returns-clause-kinds : goal.returns-clause-kinds
returns-clause-kinds c =
    answers_are _ _ c.in_ok-command.ensures ∙ c.in_ok-matches.ensures.kinds
    (ap is_simple_and_free c.in_ok-command.ensures ∙ is_judged)
