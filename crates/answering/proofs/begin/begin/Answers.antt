use Rattle.answering.proofs.MessageLemmas.{begins_503}
use Rattle.answering.proofs.begin.begin.Goals as goal

pub returns-clause-ok : goal.returns-clause-ok
returns-clause-ok g c =
    let site = c.args.site.now in
    begins_503 g.L.Origin.origin g.L.Naming.book site.limits site.escape site.page c.args.seat.now
    c.begin_message.new.seat c.args.message.now c.no_memory.result c.in-Err.ensures c.no_memory.ensures.ok
