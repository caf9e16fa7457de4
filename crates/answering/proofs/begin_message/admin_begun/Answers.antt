use Rattle.answering.specs.Admin.{IsAdminAnswered}
use Rattle.answering.specs.Inner.Outcome.{reply_in}
use Rattle.answering.proofs.ResultLemmas.{begun_of}
use Rattle.answering.proofs.begin_message.admin_begun.Goals as goal

pub returns : goal.returns
returns g c =
    begun_of (IsAdminAnswered g.L.Origin.origin g.L.Naming.book c.args.site.now.escape c.args.site.now.page
    c.args.seat.now c.admin_answer.new.seat c.args.request.now)
    (λ _. ⊥) (λ _. ⊥) (reply_in c.in_ok-outcome.outcome) c.in_ok-outcome.ensures c.outcome_begun.result
    c.outcome_begun.ensures
