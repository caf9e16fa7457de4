-- What the parser makes of arguments that ask for a command.
use Rattle.std.proofs.Common.{◌≡◌, true, Option, Some, None, List, refl, ap, ◌∙◌}
use Rattle.std.specs.Prelude.{Box, option_and_then, option_map}
use Rattle.clap.specs.Words.{App, Row, Text, is_simple, subcommand_name_of, subcommand_of, subcommand_rows}
use Rattle.clap.specs.Words.{subcommand_rows_of, takes}
use Rattle.std.specs.Box.{box_value}
use Rattle.clap.specs.declared.parser.matches.ArgMatches.{ArgMatches}
use Rattle.clap.specs.declared.parser.matches.ArgMatches.TheViews.{out-ArgMatches, out-SubCommand}
use Rattle.clap.specs.declared.parser.matches.SubCommand.{SubCommand}
use Rattle.clap.proofs.OnLiterals.{clap_on_literals}
use Rattle.mock_program.specs.CommandLine.{Asked, render, check, answer, explain}
use Rattle.mock_program.proofs.CommandArguments.{arguments_of}
use Rattle.mock_program.specs.Inner.Parser.{asked_by, asked_in, is_taken, mock_app}

pub asked_is_taken : (asked : Asked) → is_taken (arguments_of asked) ≡ true
unfolding is_taken clap_on_literals
asked_is_taken (render template method target) = refl
asked_is_taken (check file) = refl
asked_is_taken (answer file method target) = refl
asked_is_taken (explain file method target) = refl

pub asked_is_found : (asked : Asked) → asked_by (arguments_of asked) ≡ Some asked
unfolding asked_by clap_on_literals
asked_is_found (render template method target) = refl
asked_is_found (check file) = refl
asked_is_found (answer file method target) = refl
asked_is_found (explain file method target) = refl

pub mock_is_simple : (a : App) → a ≡ mock_app → is_simple a ≡ true
mock_is_simple a e = ap is_simple e ∙ refl

-- the same of another form of the program's commands
pub taken_by : (a : App) (arguments : List Text) → a ≡ mock_app → is_taken arguments ≡ true
    → takes a arguments ≡ true
unfolding is_taken
taken_by a arguments e taken = ap (λ (m : App). takes m arguments) e ∙ taken

pub found_by : (a : App) (arguments : List Text) → a ≡ mock_app
    → option_and_then (λ p. asked_in p.0 p.1) (subcommand_of a arguments) ≡ asked_by arguments
unfolding asked_by
found_by a arguments e =
    ap (λ (m : App). option_and_then (λ (p : Text × List Row). asked_in p.0 p.1) (subcommand_of m arguments)) e

-- the command's name and the values of its arguments are those that the matches have
pub named_rows : (m : ArgMatches) (name : Text) (rows : List Row) → Some name ≡ subcommand_name_of m
    → Some rows ≡ option_map (λ p. p.1) (subcommand_rows_of m) → subcommand_rows_of m ≡ Some (name, rows)
named_rows m name rows = go (out-ArgMatches m).subcommand
  where
    go : {Z : Type 0} (o : Option (Box SubCommand Z))
        → Some name ≡ option_map (λ b. (out-SubCommand (box_value b)).name.now) o
        → Some rows ≡ option_map (λ p. p.1) (subcommand_rows o) → subcommand_rows o ≡ Some (name, rows)
    go None e f = cc
    go (Some b) e f = cc

pub no_rows : (m : ArgMatches) → None ≡ subcommand_name_of m → subcommand_rows_of m ≡ None
no_rows m = go (out-ArgMatches m).subcommand
  where
    go : {Z : Type 0} (o : Option (Box SubCommand Z))
        → None ≡ option_map (λ b. (out-SubCommand (box_value b)).name.now) o → subcommand_rows o ≡ None
    go None e = refl
    go (Some b) e = cc
