use Rattle.std.proofs.Common.{List, arith, subst, sym}
use Rattle.shared_book.proofs.SettledLemmas.{are_all, are_unsettled, have_agreed, not_all, why_unsettled}
use Rattle.shared_book.specs.Held.{Held, HoldReceipts, all_lists, all_parts}
use Rattle.shared_book.specs.declared.settled.SettleRefusal.TheVariants.{SeatsMissing}
use Rattle.shared_book.proofs.locked.Locked.agree.Goals as goal

pub compare-requires-clause-held : goal.compare-requires-clause-held
compare-requires-clause-held g c =
    subst (λ (seats : List Held). HoldReceipts g.L.Origin.origin c.self.inside.history (all_lists seats))
    (sym c.audit.ensures.same_seats) c.cover.ensures.receipts

pub returns-then-not-have_parts-clause-why : goal.returns-then-not-have_parts-clause-why
returns-then-not-have_parts-clause-why g c =
    are_unsettled g.L.Origin.origin g.L.Ledger.parts g.L.Naming.book c.self.inside.history c.self.inside.book
    c.args.seats.now c.cover.ensures.was_seen c.cover.ensures.beginnings SeatsMissing c.self.invariant.lawful
    c.self.invariant.past_of
    (not_all c.have_parts.result (all_parts c.args.seats.now) c.self.inside.parts g.L.Ledger.parts
    c.have_parts.ensures (grind (arith, c.if-not-have_parts.true)) c.self.invariant.same_parts)

pub returns-clause-agreed : goal.returns-clause-agreed
returns-clause-agreed g c =
    rw (← c.self.view_is)
    (have_agreed g.L.Origin.origin g.L.Ledger.parts c.self.inside.history c.self.inside.book c.args.seats.now
    c.cover.ensures.beginnings c.audit.new.seats c.compare.result c.audit.ensures.same_seats
    (are_all c.have_parts.result (all_parts c.args.seats.now) c.self.inside.parts g.L.Ledger.parts
    c.have_parts.ensures (grind (arith, c.if-not-have_parts.false)) c.self.invariant.same_parts)
    c.compare.ensures.settled)

pub returns-clause-why : goal.returns-clause-why
returns-clause-why g c =
    why_unsettled g.L.Origin.origin g.L.Ledger.parts g.L.Naming.book c.self.inside.history c.self.inside.book
    c.args.seats.now c.cover.ensures.was_seen c.cover.ensures.beginnings c.audit.new.seats c.compare.result
    c.audit.ensures.same_seats c.self.invariant.lawful c.self.invariant.past_of c.compare.ensures.why
