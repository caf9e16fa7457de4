use Rattle.std.proofs.Common.{ap, arith, refl}
use Rattle.shared_history.specs.Entries.{entry, is_left, makes_seat}
use Rattle.shared_history.specs.Inner.Drafts.{deed_of}
use Rattle.shared_history.specs.Inner.Lines.{entries_of}
use Rattle.shared_history.specs.Seal.{seal}
use Rattle.shared_history.specs.declared.line.Silent.TheVariants.{Looked}
use Rattle.shared_history.proofs.Growing.{may_silently}
use Rattle.shared_history.proofs.Seats.{all_more, seats_kept}
use Rattle.shared_history.proofs.history.History.look.Goals as goal

pub write_as-requires-clause-allowed : goal.write_as-requires-clause-allowed
write_as-requires-clause-allowed g c =
    rw c.silent.ensures
    (may_silently g.C.Rule.may (entries_of c.self.inside.whole.seen.log) Looked c.self.invariant.front.legal.history)

pub invariant_of-seat : goal.invariant_of-seat
invariant_of-seat g c = c.write_as.ensures.seat (ap is_left c.silent.ensures)

pub returns-clause-looks : goal.returns-clause-looks
returns-clause-looks g c =
    let w = c.write_as.ensures in
    rw (← c.self.view_is, ← c.seat.view_is, w.sees, w.number)
    (record { before = w.written.before; number = refl; seen = rw (← c.silent.ensures) w.written.added })

pub returns-clause-seen : goal.returns-clause-seen
returns-clause-seen g c =
    seal g.C.Rule.may g.J.Naming.book (entries_of c.write_as.new.whole.seen.log) c.write_as.ensures.whole.legal.history

pub invariant_of-self : goal.invariant_of-self
invariant_of-self g c =
    let w = c.write_as.ensures in
    rw w.head
    (all_more g.C.Rule.may g.J.Naming.book c.self.inside.seats c.self.invariant w.written w.whole
    (seats_kept c.self.inside.seats (entries_of c.self.inside.whole.seen.log)
    (entry c.seat.inside.holder.number (deed_of c.silent.result)) (ap makes_seat c.silent.ensures)
    c.self.invariant.has_seats)
    (omega arith))
