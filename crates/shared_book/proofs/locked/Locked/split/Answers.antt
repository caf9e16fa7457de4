use Rattle.shared_book.proofs.KeptLemmas.{kept_split, was_split}
use Rattle.shared_book.proofs.locked.Locked.split.Goals as goal

pub invariant_of-self : goal.invariant_of-self
invariant_of-self g c =
    kept_split g.L.Origin.origin g.L.Ledger.parts c.self.inside.book c.self.inside.history c.split.new.self
    c.self.inside.entries.total c.self.inside.parts c.self.inside.start c.args.place.now c.split.new.seat
    c.split.result c.self.invariant c.split.ensures.splits c.split.ensures.whole c.split.ensures.legal

pub returns : goal.returns
returns g c =
    was_split g.L.Origin.origin c.self.inside.history c.split.new.self c.args.place.now c.split.new.seat
    c.split.result c.self.invariant.lawful c.split.ensures.splits c.split.ensures.whole c.split.ensures.legal
    c.split.ensures.seen
