use Rattle.shared_book.proofs.EndLemmas.{same_left}
use Rattle.shared_book.proofs.locked.leave_all.Goals as goal

pub loop-seat-preserved : goal.loop-seat-preserved
loop-seat-preserved g c = record {
  can_next = tt;
  ends = tt;
  same =
      same_left g.L.Origin.origin c.args.history.now c.loop-seat.history c.leave.new.self
      c.into_place.result c.loop-seat.invariant.same c.leave.ensures.leaves
      c.leave.ensures.legal;
}
