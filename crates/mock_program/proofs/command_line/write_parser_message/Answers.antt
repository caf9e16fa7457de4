use Rattle.std.proofs.Common.{refl, subst}
use Rattle.command_output.specs.Lines.{error_line}
use Rattle.command_output.specs.Output.{AppendsFront}
use Rattle.command_output.specs.declared.error.CommandError.{CommandError}
use Rattle.mock_program.proofs.command_line.write_parser_message.Goals as goal

pub returns-then-eq-clause-no_memory : goal.returns-then-eq-clause-no_memory
returns-then-eq-clause-no_memory g c = λ none. (
  refl,
  subst
      (λ (e : CommandError). AppendsFront (g.E.Write.contents c.args.err.now) (g.E.Write.contents c.report.new.err)
      (error_line e)) c.from.ensures c.report.ensures,
  refl,
)
