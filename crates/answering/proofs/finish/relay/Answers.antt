use Rattle.std.proofs.Common.{subst}
use Rattle.shared_book.specs.Lent.{LendsApplied}
use Rattle.answering.proofs.FinishLemmas.{unrecorded}
use Rattle.answering.proofs.finish.relay.Goals as goal

pub returns-clause-ok : goal.returns-clause-ok
returns-clause-ok g c =
    let why = subst
    (λ r. LendsApplied g.L.Origin.origin g.L.Naming.book c.args.seat.now c.apply.follows.lender-at-none
    c.in_ok-input.input r)
    c.in-Err.is c.apply.follows.holds-at-none in
    unrecorded g.L.Origin.origin g.L.Naming.book c.args.seat.now c.apply.follows.lender-at-none c.args.forward
    c.args.reply
    c.saturating_sub-wait_ms.result c.in_ok-input.input c.in-Err.error.code c.in_ok-response.response
    c.unrecorded_response.result c.in_ok-input.ensures why c.in_ok-response.ensures c.unrecorded_response.ensures
