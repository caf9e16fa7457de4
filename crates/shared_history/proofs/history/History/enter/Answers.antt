use Rattle.std.proofs.Common.{arith, refl}
use Rattle.shared_history.specs.Entries.{entry}
use Rattle.shared_history.specs.Inner.Lines.{entries_of}
use Rattle.shared_history.specs.Seal.{seal}
use Rattle.shared_history.specs.declared.entry.Deed.TheVariants.{Called}
use Rattle.shared_history.proofs.Seats.{all_more, seats_kept}
use Rattle.shared_history.proofs.history.History.enter.Goals as goal

pub invariant_of-seat : goal.invariant_of-seat
invariant_of-seat g c = c.write_as.ensures.seat refl

pub returns-clause-calls : goal.returns-clause-calls
returns-clause-calls g c =
    let w = c.write_as.ensures in
    rw (← c.self.view_is, ← c.seat.view_is, w.sees, w.number)
    (record { before = w.written.before; number = refl; seen = w.written.added })

pub returns-clause-seen : goal.returns-clause-seen
returns-clause-seen g c =
    seal g.C.Rule.may g.J.Naming.book (entries_of c.write_as.new.whole.seen.log) c.write_as.ensures.whole.legal.history

pub invariant_of-self : goal.invariant_of-self
invariant_of-self g c =
    let w = c.write_as.ensures in
    rw w.head
    (all_more g.C.Rule.may g.J.Naming.book c.self.inside.seats c.self.invariant w.written w.whole
    (seats_kept c.self.inside.seats (entries_of c.self.inside.whole.seen.log)
    (entry c.seat.inside.holder.number (Called c.args.event.now)) refl c.self.invariant.has_seats)
    (omega arith))
