use Rattle.std.proofs.Common.{◌≡◌}
use Rattle.http_messages.specs.declared.error.ServiceError.TheVariants.{OutOfMemory}
use Rattle.hyper_service.proofs.Givens.{kept_with, left_with}
use Rattle.hyper_service.proofs.site_answers.SiteAnswersAnswers.begin.Goals as goal
use Rattle.hyper_service.specs.Given.{rules_of}

pub returns-clause-ok : goal.returns-clause-ok
returns-clause-ok g c =
    let answered = rw c.deref.ensures at c.begin-answered.ensures.ok in
    kept_with (rules_of g.L.Origin.origin g.L.Naming.book c.args.self.now) (g.F.Forwards.reaches
    c.args.self.now.forwarder)
    g.F.Forwards.sends g.F.Exchange.Future.gives g.V.Run.Future.gives g.F.Exchange.Future.can_poll
    g.V.Run.Future.can_poll c.args.seat.now c.pass_on-begun.new.seat c.keep.new.seat c.args.request.now c.keep.ensures
    c.pass_on-begun.result (c.pass_on-begun.ensures.ok c.args.seat.now c.args.request.now answered)

pub returns-clause-err : goal.returns-clause-err
returns-clause-err g c =
    let answered = rw c.deref.ensures at c.begin-answered.ensures.ok in
    let failed = rw c.deref.ensures at c.begin-answered.ensures.err in
    left_with (rules_of g.L.Origin.origin g.L.Naming.book c.args.self.now) (λ error. error ≡ OutOfMemory)
    c.args.seat.now c.pass_on-begun.new.seat c.keep.new.seat c.args.request.now c.keep.ensures c.pass_on-begun.result
    (c.pass_on-begun.ensures.err c.args.seat.now c.args.request.now answered failed)
