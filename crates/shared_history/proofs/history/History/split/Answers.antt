use Rattle.std.proofs.Common.{◌+◌, ◌∙◌, ap, arith, refl, sym}
use Rattle.shared_history.specs.Entries.{entry, is_left}
use Rattle.shared_history.specs.Inner.Drafts.{deed_of}
use Rattle.shared_history.specs.Inner.Lines.{entries_of}
use Rattle.shared_history.specs.Seal.{seal}
use Rattle.shared_history.specs.declared.line.Silent.TheVariants.{Split}
use Rattle.shared_history.proofs.Growing.{may_silently}
use Rattle.shared_history.proofs.Lines.{entries_length}
use Rattle.shared_history.proofs.Seats.{all_more, more_lines, seats_made}
use Rattle.shared_history.proofs.history.History.split.Goals as goal

pub write_as-count-requires-clause-allowed : goal.write_as-count-requires-clause-allowed
write_as-count-requires-clause-allowed g c =
    rw c.silent.ensures
    (may_silently g.C.Rule.may (entries_of c.self.inside.whole.seen.log) Split c.self.invariant.front.legal.history)

pub invariant_of-seat : goal.invariant_of-seat
invariant_of-seat g c = c.write_as-count.ensures.seat (ap is_left c.silent.ensures)

pub invariant_of-result : goal.invariant_of-result
invariant_of-result g c =
    let w = c.write_as-count.ensures in
    rw (c.again.ensures, c.self.invariant.front.counted)
    (record {
      front = record { name = w.whole.name; counted = w.count ∙ w.whole.counted; legal = w.whole.legal };
      pen_name = c.draw-turn.ensures.book ∙ c.self.invariant.front.name;
      right = c.draw-turn.ensures.right;
      has = (w.written.has_child c.silent.ensures).0;
    })

pub returns-clause-splits : goal.returns-clause-splits
returns-clause-splits g c =
    let w = c.write_as-count.ensures in
    rw (← c.self.view_is, ← c.seat.view_is, c.again.ensures, w.sees, w.number, c.self.invariant.front.counted)
    (record {
      before = w.written.before;
      number = refl;
      seen = rw (← c.silent.ensures) w.written.added;
      child_number = sym (entries_length c.self.inside.whole.seen.log);
      child_seen = refl;
      child_own = (w.written.has_child c.silent.ensures).1;
    })

pub returns-clause-seen : goal.returns-clause-seen
returns-clause-seen g c =
    seal g.C.Rule.may g.J.Naming.book (entries_of c.write_as-count.new.whole.seen.log) c.write_as-count.ensures.whole.legal.history

pub invariant_of-self : goal.invariant_of-self
invariant_of-self g c =
    let w = c.write_as-count.ensures in
    rw w.head
    (all_more g.C.Rule.may g.J.Naming.book (c.self.inside.seats + 1) c.self.invariant w.written w.whole
    (seats_made c.self.inside.seats (entries_of c.self.inside.whole.seen.log)
    (entry c.seat.inside.holder.number (deed_of c.silent.result)) c.self.invariant.has_seats)
    (omega arith))

pub overflow_add-self : goal.overflow_add-self
overflow_add-self g c =
    let w = c.write_as-count.ensures in
    let more = more_lines _ _ _ w.written.added in
    omega (arith, more, w.count, w.whole.counted, c.self.invariant.front.counted, c.self.invariant.fits)
