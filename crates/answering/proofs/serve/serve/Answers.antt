use Rattle.std.proofs.Common.{inl, inr, refl, subst}
use Rattle.std.specs.Prelude.{IfOk}
use Rattle.stub_response.specs.ErrorReply.{error_reply}
use Rattle.answering.specs.Answering.{IsServeAnswered}
use Rattle.answering.specs.Inner.Sent.{HasBegun, IsForwardOf, IsRenderingOf, IsServedToForward, IsServedToRender}
use Rattle.answering.specs.Served.{IsEventReply}
use Rattle.answering.proofs.ResultLemmas.{begun_of}
use Rattle.answering.proofs.ServeLemmas.{of_event}
use Rattle.shared_book.specs.Held.{Held}
use Rattle.shared_book.specs.Lent.{LendsServed}
use Rattle.answering.proofs.serve.serve.Goals as goal

pub returns-in-Ok : goal.returns-in-Ok
returns-in-Ok g c =
    let lent = subst
    (λ r. LendsServed g.L.Origin.origin g.L.Naming.book c.args.seat.now c.serve.follows.lender-at-none c.args.request r)
    c.in-Ok.is c.serve.follows.holds-at-none in
    of_event g.L.Origin.origin g.L.Naming.book c.args.site.now.limits c.args.seat.now c.serve.follows.lender-at-none
    c.args.request
    c.in-Ok.receipt.now c.begin_event.result
    lent
    (subst (λ event. IfOk c.begin_event.result
    (HasBegun (IsEventReply c.args.site.now.limits event) (IsForwardOf c.in-Ok.receipt.now.number event)
    (IsRenderingOf c.args.site.now.limits c.in-Ok.receipt.now.number event)))
    c.event.ensures c.begin_event.ensures)

pub returns : goal.returns
returns g c =
    let new : Held = c.serve.follows.lender-at-none in
    let same = subst
    (λ r. LendsServed g.L.Origin.origin g.L.Naming.book c.args.seat.now c.serve.follows.lender-at-none c.args.request r)
    c.in-Err.is c.serve.follows.holds-at-none in
    begun_of
    (IsServeAnswered g.L.Origin.origin g.L.Naming.book c.args.site.now.limits c.args.seat.now new c.args.request)
    (IsServedToForward g.L.Origin.origin g.L.Naming.book c.args.seat.now new c.args.request)
    (IsServedToRender g.L.Origin.origin g.L.Naming.book c.args.site.now.limits c.args.seat.now new c.args.request)
    (error_reply 503 c.in-Err.error.code) (inr (c.in-Err.error.code, inl same, refl)) c.unserved.result
    c.unserved.ensures
