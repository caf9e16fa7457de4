use Rattle.std.proofs.Common.{subst}
use Rattle.hyper_service.proofs.Givens.{refused}
use Rattle.hyper_service.proofs.journal_limit.clear.Goals as goal
use Rattle.request_journal.specs.declared.input.BookInput.TheVariants.{ClearJournal}
use Rattle.shared_book.specs.Lent.{LendsApplied}

pub returns-in-Err-clause-refused : goal.returns-in-Err-clause-refused
returns-in-Err-clause-refused g c = λ _.
    refused g.L.Origin.origin g.L.Naming.book c.args.seat.now c.apply.follows.lender-at-none c.in-Err._error
    (subst (λ r. LendsApplied g.L.Origin.origin g.L.Naming.book c.args.seat.now c.apply.follows.lender-at-none
    ClearJournal r)
    c.in-Err.is c.apply.follows.holds-at-none)
