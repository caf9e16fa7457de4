use Rattle.shared_book.proofs.KeptLemmas.{kept_left, was_joined}
use Rattle.shared_book.proofs.locked.Locked.join.Goals as goal

pub invariant_of-self : goal.invariant_of-self
invariant_of-self g c =
    kept_left g.L.Origin.origin g.L.Ledger.parts c.self.inside.book c.self.inside.history c.leave.new.self
    c.self.inside.entries.total c.self.inside.parts c.self.inside.start c.args.other c.self.invariant
    c.leave.ensures.leaves c.leave.ensures.legal

pub returns : goal.returns
returns g c =
    was_joined g.L.Origin.origin c.self.inside.history c.leave.new.self c.args.place.now c.args.other
    c.catch_up.new.seat c.self.invariant.lawful c.leave.ensures.leaves c.leave.ensures.left c.leave.ensures.legal
    c.catch_up.ensures.catches_up c.leave.ensures.seen
