use Rattle.answering.proofs.RefusedLemmas.{told}
use Rattle.answering.proofs.refused.with_reason.Goals as goal

pub returns-in-Ok : goal.returns-in-Ok
returns-in-Ok c =
    told c.args.reply c.with_line.result c.in-Ok.line c.into_octets.result c.into_octets.ensures.reason c.in-Ok.ensures
    c.with_line.ensures
