use Rattle.shared_book.specs.Inner.Ends.{HasSameCalls}
use Rattle.shared_book.proofs.locked.leave_all.Given as goal

abbrev pub invariant-loop-seat : goal.invariant-loop-seat
invariant-loop-seat g l = record {
  can_next : (goal.iterator-loop-seat g).can_next l.seat-iterator;
  ends : (goal.iterator-loop-seat g).is_finite l.seat-iterator;
  same : HasSameCalls g.L.Origin.origin l.fn.history l.history;
}
