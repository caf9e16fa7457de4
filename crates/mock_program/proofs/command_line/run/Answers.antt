use Rattle.std.proofs.Common.{List, ℕ, refl, sym, subst}
use Rattle.command_output.specs.Lines.{error_line}
use Rattle.command_output.specs.Output.{AppendsFront}
use Rattle.command_output.specs.declared.error.CommandError.{CommandError}
use Rattle.mock_program.proofs.Refused.{without_memory}
use Rattle.mock_program.specs.CommandLine.{AreInvalid, AsksFor, CallsForHelp}
use Rattle.mock_program.specs.Commands.{Does}
use Rattle.mock_program.proofs.command_line.run.Goals as goal

pub returns-clause-command : goal.returns-clause-command
returns-clause-command g c = λ escape asked asks.
    subst (λ (options : List (List ℕ × List ℕ)). Does g.O.Write.contents g.E.Write.contents
    (g.F.FileReader.listed c.args.files.now) (g.F.FileReader.content c.args.files.now) escape asked options
    c.args.out.now c.run_words.new.out c.args.err.now c.run_words.new.err c.run_words.result)
    c.in-Ok.ensures.options
    (c.run_words.ensures.command escape asked
    (subst (λ words. AsksFor words escape asked) (sym c.in-Ok.ensures.words) asks))

pub returns-clause-help : goal.returns-clause-help
returns-clause-help g c = λ calls.
    c.run_words.ensures.help (subst CallsForHelp (sym c.in-Ok.ensures.words) calls)

pub returns-clause-invalid : goal.returns-clause-invalid
returns-clause-invalid g c = λ invalid.
    c.run_words.ensures.invalid (subst AreInvalid (sym c.in-Ok.ensures.words) invalid)

-- where the arguments have no memory
pub returns-in_default-clause-command : goal.returns-in_default-clause-command
returns-in_default-clause-command g c = λ escape asked asks.
    let shown =
    subst (λ (e : CommandError). AppendsFront (g.E.Write.contents c.args.err.now) (g.E.Write.contents c.report.new.err)
    (error_line e)) c.from.ensures c.report.ensures in
    without_memory g.O.Write.contents g.E.Write.contents (g.F.FileReader.listed c.args.files.now)
    (g.F.FileReader.content c.args.files.now) escape asked _
    c.args.out.now
    c.args.out.now c.args.err.now c.report.new.err 1 refl shown refl
