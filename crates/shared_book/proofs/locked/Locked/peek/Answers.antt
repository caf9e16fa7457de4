use Rattle.shared_book.proofs.KeptLemmas.{looked_up_once}
use Rattle.shared_book.proofs.locked.Locked.peek.Goals as goal

pub returns : goal.returns
returns g c =
    looked_up_once g.L.Naming.book g.L.Origin.origin c.self.inside.book c.self.inside.history c.front.result
    c.args.asked c.look.result c.self.invariant.lawful c.self.invariant.past_of c.front.ensures.front
    c.front.ensures.seen c.look.ensures
