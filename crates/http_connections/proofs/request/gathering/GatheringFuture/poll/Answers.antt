use Rattle.std.proofs.Common.{rules, ◌≢◌, Err, IfErr, ap, subst, ◌∙◌}
use Rattle.http_connections.proofs.ContentLemmas.{broke, ended, failed, gathered_after}
use Rattle.http_connections.specs.declared.request.content_error.ContentError.TheVariants.{Malformed}
use Rattle.http_connections.proofs.request.gathering.GatheringFuture.poll.Goals as goal

pub returns-in-Err-clause-value : goal.returns-in-Err-clause-value
returns-in-Err-clause-value g c =
    failed (g.B.Body.yields c.args.self.now.body) c.in-Some-Ok.frame c.args.self.now.is_too_long
    c.args.self.now.gathered.items c.push.new.self.gathered.items c.in-Err.error
    (λ same. c.push.ensures.too_long (c.in-Err.is ∙ ap (λ error. Err error) same))
    (subst (λ result. IfErr result (λ error. error ≢ Malformed)) c.in-Err.is c.push.ensures.err) (search rules)

pub returns-in-Some-Err-clause-value : goal.returns-in-Some-Err-clause-value
returns-in-Some-Err-clause-value g c =
    broke (g.B.Body.yields c.args.self.now.body) c.args.self.now.is_too_long c.args.self.now.gathered.items
    c.content_error.result c.in-Some-Err.error c.content_error.ensures (search rules)

pub returns-then-is_end_stream-clause-value : goal.returns-then-is_end_stream-clause-value
returns-then-is_end_stream-clause-value g c =
    gathered_after (g.B.Body.yields c.args.self.now.body) c.in-Some-Ok.frame (g.B.Body.yields c.push.new.self.body)
    (search rules) (rw c.push.ensures.same (search rules)) c.args.self.now.is_too_long c.args.self.now.gathered.items
    c.push.new.self.is_too_long c.push.new.self.gathered.items c.in_default.ensures.pushed
    c.end-then-is_end_stream.result
    (ended (g.B.Body.yields c.push.new.self.body) c.push.new.self.is_too_long c.push.new.self.gathered.items
    c.end-then-is_end_stream.result c.end-then-is_end_stream.ensures.value c.end-then-is_end_stream.ensures.too_long
    c.end-then-is_end_stream.ensures.err (search rules))

pub returns-2-clause-same : goal.returns-2-clause-same
returns-2-clause-same g c =
    rw c.yield_now.ensures.pending (λ x more. gathered_after (g.B.Body.yields c.args.self.now.body)
    c.in-Some-Ok.frame (g.B.Body.yields c.push.new.self.body) (search rules) (rw c.push.ensures.same (search rules))
    c.args.self.now.is_too_long c.args.self.now.gathered.items c.push.new.self.is_too_long
    c.push.new.self.gathered.items c.in_default.ensures.pushed x more)
