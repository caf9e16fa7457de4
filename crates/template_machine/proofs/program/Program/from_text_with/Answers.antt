use Rattle.std.proofs.Common.{sym, subst}
use Rattle.template_tree.specs.Source.{with_escape}
use Rattle.template_machine.specs.Inner.Needs.{CoversCode}
use Rattle.template_machine.specs.Program.{IsProgram}
use Rattle.template_machine.proofs.program.Program.from_text_with.Goals as goal

pub new-requires-clause-program : goal.new-requires-clause-program
new-requires-clause-program c =
    subst
    (λ text. IsProgram (record { source = with_escape c.args.escape text; code = c.in_ok-verified.verified }))
    (sym c.in_ok-source.ensures.ok) c.in_ok-verified.ensures.ok.program

pub new-requires-clause-covers : goal.new-requires-clause-covers
new-requires-clause-covers c = subst (CoversCode c.in_ok-needed.needed) c.code.ensures.code c.in_ok-needed.ensures
