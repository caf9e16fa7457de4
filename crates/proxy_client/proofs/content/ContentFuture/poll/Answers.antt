use Rattle.std.proofs.Common.{rules}
use Rattle.proxy_client.proofs.ContentLemmas.{gathered, gathers_after}
use Rattle.proxy_client.proofs.content.ContentFuture.poll.Goals as goal

pub returns-in-None-clause-value : goal.returns-in-None-clause-value
returns-in-None-clause-value g c =
    gathered g.D.Into.converts (g.B.Body.yields c.args.self.now.body) c.args.self.now.gathered.items c.take.result
    c.take.ensures.value c.take.ensures.within (search rules)

pub returns-in-Ok-clause-same : goal.returns-in-Ok-clause-same
returns-in-Ok-clause-same g c =
    rw c.yield_now.ensures.pending (λ x more. gathers_after g.D.Into.converts (g.B.Body.yields c.args.self.now.body)
    (g.B.Body.yields c.push.new.self.body) c.in-Some-Ok.frame c.frame_of_bytes.result
    (rw c.push.ensures.same (search rules)) c.frame_of_bytes.ensures
    c.args.self.now.gathered.items c.push.new.self.gathered.items c.in-Ok.ensures.pushed x more)
