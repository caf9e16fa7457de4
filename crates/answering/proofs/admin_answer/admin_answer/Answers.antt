use Rattle.std.proofs.Common.{refl, inl, inr, ◌∙◌, sym}
use Rattle.std.proofs.lemmas.Bool.{false≢true}
use Rattle.answering.specs.Admin.{IsAdminAnswered, IsOwnAnswered, foreign_reply}
use Rattle.answering.proofs.ResultLemmas.{refused_with, weaker}
use Rattle.answering.proofs.admin_answer.admin_answer.Goals as goal

pub returns-then-is_foreign : goal.returns-then-is_foreign
returns-then-is_foreign g c =
    refused_with (IsAdminAnswered g.L.Origin.origin g.L.Naming.book c.args.site.now.escape c.args.site.now.page
    c.args.seat.now c.args.seat.now c.args.request.now)
    foreign_reply c.foreign_outcome.result
    (λ reply why. inl (c.is_foreign.ensures.0 c.if-is_foreign.true, refl, why)) c.foreign_outcome.ensures

pub returns : goal.returns
returns g c =
    weaker (IsOwnAnswered g.L.Origin.origin g.L.Naming.book c.args.site.now.escape c.args.site.now.page c.args.seat.now
    c.own_answer.new.seat c.args.request.now)
    (IsAdminAnswered g.L.Origin.origin g.L.Naming.book c.args.site.now.escape c.args.site.now.page c.args.seat.now
    c.own_answer.new.seat c.args.request.now)
    (λ reply answered. inr (λ foreign. false≢true (sym c.if-is_foreign.false ∙ c.is_foreign.ensures.1 foreign), answered))
    c.own_answer.result c.own_answer.ensures
