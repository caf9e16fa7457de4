use Rattle.std.proofs.Common.{string_bytes}
use Rattle.template_tree.specs.Source.{with_escape}
use Rattle.template_machine.specs.Program.{ProgramParts}
use Rattle.template_machine.proofs.Programs.{finds_same}
use Rattle.template_machine.proofs.program.Program.add_needed.Goals as goal

pub returns-clause-finds : goal.returns-clause-finds
returns-clause-finds c =
    let i = c.self.inside in
    let program : ProgramParts = record { source = with_escape i.escape (string_bytes i.source); code = i.verified } in
    rw (← c.self.view_is)
    (λ r r' alike. finds_same program r r' c.self.invariant.0
    (c.self.invariant.1 r r' (c.add_kept.ensures.kept r r' alike)))
