use Rattle.std.proofs.Common.{refl, inl, inr}
use Rattle.answering.specs.Admin.{IsCallAnswered, IsOwnAnswered}
use Rattle.answering.specs.Page.{page_reply}
use Rattle.answering.proofs.ResultLemmas.{given, weaker}
use Rattle.answering.proofs.admin_answer.own_answer.Goals as goal

pub returns-in-Some : goal.returns-in-Some
returns-in-Some g c =
    given (IsOwnAnswered g.L.Origin.origin g.L.Naming.book c.args.site.now.escape c.args.site.now.page c.args.seat.now
    c.args.seat.now c.args.request.now)
    (page_reply c.in-Some.page.now) c.page_answer.result
    (inl (c.in-Some.page.now, c.in-Some.ensures.some, refl, refl)) c.page_answer.ensures

pub returns-in-None : goal.returns-in-None
returns-in-None g c =
    weaker (IsCallAnswered g.L.Origin.origin g.L.Naming.book c.args.site.now.escape c.args.seat.now
    c.made_answer.new.seat c.args.request.now)
    (IsOwnAnswered g.L.Origin.origin g.L.Naming.book c.args.site.now.escape c.args.site.now.page c.args.seat.now
    c.made_answer.new.seat c.args.request.now)
    (λ reply answered. inr (c.in-None.ensures.none refl, answered)) c.made_answer.result c.made_answer.ensures
