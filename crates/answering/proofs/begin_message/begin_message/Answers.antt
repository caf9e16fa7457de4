use Rattle.std.proofs.Common.{sym, ◌∙◌, subst, inl, inr}
use Rattle.std.proofs.lemmas.Bool.{false≢true}
use Rattle.admin_routes.specs.Routes.{IsAdmin}
use Rattle.answering.specs.Admin.{IsAdminAnswered}
use Rattle.answering.specs.Answering.{IsMessageReply, IsRequestAnswered, IsServeAnswered, refusal}
use Rattle.answering.specs.Forwarding.{IsToForward}
use Rattle.answering.specs.Inner.Sent.{IsServedToForward, IsServedToRender}
use Rattle.answering.proofs.MessageLemmas.{IsRequestToRender, IsRequestToForward, is_unread, of_request, refused}
use Rattle.answering.specs.Rendering.{IsToRender}
use Rattle.answering.proofs.ResultLemmas.{begun_of, begun_weaker}
use Rattle.answering.proofs.begin_message.begin_message.Goals as goal

-- the seat is as it was when the request has been read
pub returns-in-Ok : goal.returns-in-Ok
returns-in-Ok g c =
    let origin = g.L.Origin.origin in
    let name = g.L.Naming.book in
    let site = c.args.site.now in
    let middle = c.request_of.new.seat in
    let new = c.serve.new.seat in
    let request = c.in-Ok.request in
    let other : ¬ (IsAdmin request.url) =
    λ is. false≢true (sym c.if-is_admin.false
    ∙ c.is_admin.ensures.1 (subst IsAdmin (sym c.url.ensures.value) is)) in
    of_request origin name site.limits site.escape site.page c.args.seat.now middle new c.args.message.now request
    c.serve.result c.request_of.ensures.same c.in-Ok.ensures.received c.in-Ok.ensures.within c.law_names.ensures
    (begun_weaker
    (IsServeAnswered origin name site.limits middle new request)
    (IsRequestAnswered origin name site.limits site.escape site.page middle new request)
    (IsServedToForward origin name middle new request)
    (IsRequestToForward origin name middle new request)
    (IsServedToRender origin name site.limits middle new request)
    (IsRequestToRender origin name site.limits middle new request)
    (λ reply is. inr (other, is)) (λ forward is. (other, is)) (λ rendering is. (other, is)) c.serve.result
    c.serve.ensures)

pub returns-then-is_admin : goal.returns-then-is_admin
returns-then-is_admin g c =
    let origin = g.L.Origin.origin in
    let name = g.L.Naming.book in
    let site = c.args.site.now in
    let middle = c.request_of.new.seat in
    let new = c.admin_begun.new.seat in
    let request = c.in-Ok.request in
    let is = subst IsAdmin c.url.ensures.value (c.is_admin.ensures.0 c.if-is_admin.true) in
    of_request origin name site.limits site.escape site.page c.args.seat.now middle new c.args.message.now request
    c.admin_begun.result c.request_of.ensures.same c.in-Ok.ensures.received c.in-Ok.ensures.within
    c.law_names.ensures
    (begun_weaker
    (IsAdminAnswered origin name site.escape site.page middle new request)
    (IsRequestAnswered origin name site.limits site.escape site.page middle new request)
    (λ _. ⊥)
    (IsRequestToForward origin name middle new request)
    (λ _. ⊥)
    (IsRequestToRender origin name site.limits middle new request)
    (λ reply answered. inl (is, answered)) (λ forward none. absurd none) (λ rendering none. absurd none)
    c.admin_begun.result c.admin_begun.ensures)

pub returns : goal.returns
returns g c =
    let why = is_unread c.args.message.now c.in-Err.error c.request_of.result c.in-Err.is
    c.request_of.ensures.bad_url c.request_of.ensures.too_large in
    begun_of
    (IsMessageReply g.L.Origin.origin g.L.Naming.book c.args.site.now.limits c.args.site.now.escape c.args.site.now.page
    c.args.seat.now c.request_of.new.seat c.args.message.now)
    (IsToForward g.L.Origin.origin g.L.Naming.book c.args.seat.now c.request_of.new.seat c.args.message.now)
    (IsToRender g.L.Origin.origin g.L.Naming.book c.args.site.now.limits c.args.seat.now c.request_of.new.seat
    c.args.message.now)
    (refusal c.in-Err.error)
    (inl (refused c.args.seat.now c.request_of.new.seat c.args.message.now c.in-Err.error c.request_of.ensures.same
    why))
    c.unread.result c.unread.ensures
