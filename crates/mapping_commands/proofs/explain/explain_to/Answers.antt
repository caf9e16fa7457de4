use Rattle.std.proofs.Common.{inr, refl, string_bytes, subst}
use Rattle.command_output.specs.Output.{AppendsPart}
use Rattle.mapping_commands.proofs.explain.explain_to.Goals as goal

pub returns-in-Ok : goal.returns-in-Ok
returns-in-Ok g c =
    let printed = c.in-Ok.printed in
    let part = subst (AppendsPart (g.O.Write.contents c.args.out.now) (g.O.Write.contents c.put.new.out))
    c.as_bytes.ensures.value c.in-Err-put.ensures in
    inr (inr (string_bytes printed.text, printed.status, c.in-Ok.ensures, refl, part, refl))
