use Rattle.std.proofs.Common.{◌-◌, arith}
use Rattle.shared_history.specs.Inner.Lines.{entries_of}
use Rattle.shared_history.specs.Seal.{seal}
use Rattle.shared_history.specs.declared.line.Silent.TheVariants.{Left}
use Rattle.shared_history.proofs.Growing.{may_silently}
use Rattle.shared_history.proofs.Seats.{all_more, seats_left, some_seat}
use Rattle.shared_history.proofs.history.History.leave.Goals as goal

pub write_as-requires-clause-allowed : goal.write_as-requires-clause-allowed
write_as-requires-clause-allowed g c =
    rw c.silent.ensures
    (may_silently g.C.Rule.may (entries_of c.self.inside.whole.seen.log) Left c.self.invariant.front.legal.history)

pub returns-clause-leaves : goal.returns-clause-leaves
returns-clause-leaves g c =
    let w = c.write_as.ensures in
    rw (← c.self.view_is, ← c.seat.view_is)
    (record { before = w.written.before; left = rw (← c.silent.ensures) w.written.added })

pub returns-clause-left : goal.returns-clause-left
returns-clause-left g c = rw (← c.seat.view_is) (c.write_as.ensures.written.has_left c.silent.ensures)

pub returns-clause-seen : goal.returns-clause-seen
returns-clause-seen g c =
    seal g.C.Rule.may g.J.Naming.book (entries_of c.write_as.new.whole.seen.log) c.write_as.ensures.whole.legal.history

pub overflow_sub-self : goal.overflow_sub-self
overflow_sub-self g c =
    let some =
    some_seat c.self.inside.seats (entries_of c.self.inside.whole.seen.log) c.seat.inside.holder.number
    c.write_as.ensures.written.seat c.self.invariant.has_seats in
    omega (arith, some)

pub invariant_of-self : goal.invariant_of-self
invariant_of-self g c =
    let w = c.write_as.ensures in
    let log = entries_of c.self.inside.whole.seen.log in
    let number = c.seat.inside.holder.number in
    let some = some_seat c.self.inside.seats log number w.written.seat c.self.invariant.has_seats in
    let left = c.self.inside.seats - 1 in
    let written = rw c.silent.ensures at w.written in
    rw w.head
    (all_more g.C.Rule.may g.J.Naming.book left c.self.invariant written w.whole
    (seats_left c.self.inside.seats log number left w.written.seat c.self.invariant.has_seats (omega (arith, some)))
    (omega arith))
