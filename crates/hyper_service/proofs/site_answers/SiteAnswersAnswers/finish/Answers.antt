use Rattle.std.proofs.Common.{refl}
use Rattle.hyper_service.proofs.Givens.{at_unchanged_seat, given_later, given_rendered}
use Rattle.hyper_service.proofs.site_answers.SiteAnswersAnswers.finish.Goals as goal
use Rattle.answering.specs.Rendering.{IsResponseOfRendered}
use Rattle.hyper_service.specs.Given.{rules_of}

pub returns-in-Forwarded-clause-ok : goal.returns-in-Forwarded-clause-ok
returns-in-Forwarded-clause-ok g c = λ message first_old first_new exchange same by given.
    given_later (rules_of g.L.Origin.origin g.L.Naming.book c.args.self.now) (g.F.Forwards.reaches
    c.args.self.now.forwarder)
    g.F.Forwards.sends g.F.Exchange.Future.gives g.V.Run.Future.gives c.args.seat.now c.finish_forwarded.new.seat message
    first_old first_new exchange same by c.in-Forwarded.forwarded.forward c.in-Forwarded.forwarded.reply
    (rw c.in-Forwarded.is at given) c.finish_forwarded.result c.finish_forwarded.ensures.ok

pub returns-in-Rendered-clause-ok : goal.returns-in-Rendered-clause-ok
returns-in-Rendered-clause-ok g c = λ message first_old first_new exchange same by given.
    given_rendered (rules_of g.L.Origin.origin g.L.Naming.book c.args.self.now) (g.F.Forwards.reaches
    c.args.self.now.forwarder)
    g.F.Forwards.sends g.F.Exchange.Future.gives g.V.Run.Future.gives c.args.seat.now c.args.seat.now message
    first_old first_new exchange refl same by c.in-Rendered.rendered.rendering c.in-Rendered.rendered.reply
    (rw c.in-Rendered.is at given) c.finish_rendered.result c.finish_rendered.ensures.ok

pub returns-in-Forwarded-clause-by_reply : goal.returns-in-Forwarded-clause-by_reply
returns-in-Forwarded-clause-by_reply g c = rw c.in-Forwarded.is c.finish_forwarded.ensures.ok

pub returns-in-Rendered-clause-by_reply : goal.returns-in-Rendered-clause-by_reply
returns-in-Rendered-clause-by_reply g c =
    rw c.in-Rendered.is (at_unchanged_seat (IsResponseOfRendered c.in-Rendered.rendered.reply) c.args.seat.now
    c.finish_rendered.result c.finish_rendered.ensures.ok)
