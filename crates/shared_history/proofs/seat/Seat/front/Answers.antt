use Rattle.shared_history.specs.Inner.Lines.{entries_of}
use Rattle.shared_history.specs.Seal.{seal}
use Rattle.shared_history.proofs.seat.Seat.front.Goals as goal

pub returns-clause-seen : goal.returns-clause-seen
returns-clause-seen g c =
    rw c.again.ensures
    (seal g.C.Rule.may g.J.Naming.book (entries_of c.self.inside.holder.seen.log) c.self.invariant.front.legal.history)
