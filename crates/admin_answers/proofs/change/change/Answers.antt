use Rattle.admin_answers.proofs.ChangeLemmas.{not_changed}
use Rattle.shared_book.specs.Lent.{LendsApplied}
use Rattle.std.proofs.Common.{subst}
use Rattle.admin_answers.proofs.change.change.Goals as goal

-- src/change.rt:24:1
pub returns-in-Err-clause-refused : goal.returns-in-Err-clause-refused
returns-in-Err-clause-refused g c =
    not_changed g.L.Origin.origin g.L.Naming.book c.args.seat.now c.apply.follows.lender-at-none c.args.asked
    c.in-Err.error
    c.from.result
    (subst (λ r. LendsApplied g.L.Origin.origin g.L.Naming.book c.args.seat.now c.apply.follows.lender-at-none
    c.args.asked r)
    c.in-Err.is c.apply.follows.holds-at-none)
    c.from.ensures
