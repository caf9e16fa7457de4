use Rattle.std.proofs.Common.{inr, refl, string_bytes, subst}
use Rattle.command_output.specs.Output.{AppendsPart}
use Rattle.mapping_commands.proofs.check.check_noting.Goals as goal

pub returns-in-Ok : goal.returns-in-Ok
returns-in-Ok g c =
    let checked = c.in-Ok.checked in
    let part = subst (AppendsPart (g.O.Write.contents c.args.out.now) (g.O.Write.contents c.put.new.out))
    c.as_bytes.ensures.value c.in-Err-put.ensures in
    inr (inr (string_bytes checked.text, _, (checked.is_refused, c.in-Ok.ensures.report, refl), refl, part, refl))
