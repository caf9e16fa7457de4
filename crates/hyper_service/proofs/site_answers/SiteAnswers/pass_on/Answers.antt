use Rattle.std.proofs.Common.{◌≡◌, inl, subst}
use Rattle.http_messages.specs.declared.error.ServiceError.TheVariants.{OutOfMemory}
use Rattle.hyper_service.proofs.Givens.{forward_begun, left_unfinished, left_unrendered, render_begun}
use Rattle.hyper_service.proofs.site_answers.SiteAnswers.pass_on.Goals as goal
use Rattle.hyper_service.specs.Given.{rules_of}
use Rattle.hyper_service.specs.Inner.Begins.{IsAnswering}

pub returns-in-Ok-Answered-clause-ok : goal.returns-in-Ok-Answered-clause-ok
returns-in-Ok-Answered-clause-ok g c = λ old message answered.
    let rules = rules_of g.L.Origin.origin g.L.Naming.book c.args.self.now in
    inl (subst (IsAnswering rules old c.args.seat.now message) c.in-Ok-Answered.field-0-is
    (rw c.in-Ok-Answered.is at answered))

pub returns-in-Ok-Refused-clause-ok : goal.returns-in-Ok-Refused-clause-ok
returns-in-Ok-Refused-clause-ok g c = λ old message answered.
    let rules = rules_of g.L.Origin.origin g.L.Naming.book c.args.self.now in
    let begun = subst (IsAnswering rules old c.args.seat.now message) c.in-Ok-Refused.field-0-is
    (rw c.in-Ok-Refused.is at answered) in
    inl (rw c.refused_response.ensures begun)

pub returns-in-Ok-ToForward-clause-ok : goal.returns-in-Ok-ToForward-clause-ok
returns-in-Ok-ToForward-clause-ok g c = λ old message answered.
    let rules = rules_of g.L.Origin.origin g.L.Naming.book c.args.self.now in
    let begun = subst (IsAnswering rules old c.args.seat.now message) c.in-Ok-ToForward.field-0-is
    (rw c.in-Ok-ToForward.is at answered) in
    forward_begun rules (g.F.Forwards.reaches c.args.self.now.forwarder) g.F.Forwards.sends g.F.Exchange.Future.gives
    g.V.Run.Future.gives g.F.Exchange.Future.can_poll g.V.Run.Future.can_poll old c.args.seat.now c.forward.new.seat
    message c.in-Ok-ToForward.forward begun c.forward.result c.forward.ensures.ok

pub returns-in-Ok-ToForward-clause-err : goal.returns-in-Ok-ToForward-clause-err
returns-in-Ok-ToForward-clause-err g c = λ old message answered failed.
    let rules = rules_of g.L.Origin.origin g.L.Naming.book c.args.self.now in
    let begun = subst (IsAnswering rules old c.args.seat.now message) c.in-Ok-ToForward.field-0-is
    (rw c.in-Ok-ToForward.is at answered) in
    left_unfinished rules (λ error. error ≡ OutOfMemory) old c.args.seat.now c.forward.new.seat message
    c.in-Ok-ToForward.forward begun c.forward.result c.forward.ensures.err

pub returns-in-Ok-ToRender-clause-ok : goal.returns-in-Ok-ToRender-clause-ok
returns-in-Ok-ToRender-clause-ok g c = λ old message answered.
    let rules = rules_of g.L.Origin.origin g.L.Naming.book c.args.self.now in
    let begun = subst (IsAnswering rules old c.args.seat.now message) c.in-Ok-ToRender.field-0-is
    (rw c.in-Ok-ToRender.is at answered) in
    render_begun rules (g.F.Forwards.reaches c.args.self.now.forwarder) g.F.Forwards.sends g.F.Exchange.Future.gives
    g.V.Run.Future.gives g.F.Exchange.Future.can_poll g.V.Run.Future.can_poll old c.args.seat.now message
    c.in-Ok-ToRender.rendering begun c.render.result c.render.ensures.ok

pub returns-in-Ok-ToRender-clause-err : goal.returns-in-Ok-ToRender-clause-err
returns-in-Ok-ToRender-clause-err g c = λ old message answered failed.
    let rules = rules_of g.L.Origin.origin g.L.Naming.book c.args.self.now in
    let begun = subst (IsAnswering rules old c.args.seat.now message) c.in-Ok-ToRender.field-0-is
    (rw c.in-Ok-ToRender.is at answered) in
    left_unrendered rules (λ error. error ≡ OutOfMemory) old c.args.seat.now message c.in-Ok-ToRender.rendering begun
    c.render.result c.render.ensures.err
