use Rattle.shared_history.specs.Inner.Lines.{entries_of}
use Rattle.shared_history.specs.Seal.{seal}
use Rattle.shared_history.proofs.Growing.{is_whole}
use Rattle.shared_history.proofs.Seats.{no_seat}
use Rattle.shared_history.proofs.history.History.close.Goals as goal

pub returns-else-self-ne0-clause-ended : goal.returns-else-self-ne0-clause-ended
returns-else-self-ne0-clause-ended g c =
    rw (← c.self.view_is)
    (no_seat (entries_of c.self.inside.whole.seen.log) (rw (← c.if-self-ne0.false) c.self.invariant.has_seats))

pub returns-else-self-ne0-clause-whole : goal.returns-else-self-ne0-clause-whole
returns-else-self-ne0-clause-whole g c =
    rw (← c.self.view_is)
    (is_whole g.C.Rule.may (entries_of c.self.inside.whole.seen.log) c.self.invariant.front.legal.history
    (no_seat (entries_of c.self.inside.whole.seen.log) (rw (← c.if-self-ne0.false) c.self.invariant.has_seats)))

pub returns-else-self-ne0-clause-seen : goal.returns-else-self-ne0-clause-seen
returns-else-self-ne0-clause-seen g c =
    rw (← c.self.view_is)
    (seal g.C.Rule.may g.J.Naming.book (entries_of c.self.inside.whole.seen.log) c.self.invariant.front.legal.history)
