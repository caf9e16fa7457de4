use Rattle.shared_book.proofs.KeptLemmas.{kept_looked, looked_up, sees_all}
use Rattle.shared_book.proofs.locked.Locked.read.Goals as goal

pub returns-clause-answer : goal.returns-clause-answer
returns-clause-answer g c =
    looked_up g.L.Origin.origin c.self.inside.book c.self.inside.history c.args.place.now c.look.new.seat
    c.args.asked c.event_count-number.result c.in_ok-answer.answer c.self.invariant.past_of c.look.ensures.looks
    c.event_count-number.ensures.value c.in_ok-answer.ensures

pub invariant_of-self : goal.invariant_of-self
invariant_of-self g c =
    kept_looked g.L.Origin.origin g.L.Ledger.parts c.self.inside.book c.self.inside.history c.look.new.self
    c.self.inside.entries.total c.self.inside.parts c.self.inside.start c.args.place.now c.look.new.seat
    c.self.invariant c.look.ensures.looks c.look.ensures.whole c.look.ensures.legal

pub invariant_of-self-2 : goal.invariant_of-self-2
invariant_of-self-2 g c =
    kept_looked g.L.Origin.origin g.L.Ledger.parts c.self.inside.book c.self.inside.history c.look.new.self
    c.self.inside.entries.total c.self.inside.parts c.self.inside.start c.args.place.now c.look.new.seat
    c.self.invariant c.look.ensures.looks c.look.ensures.whole c.look.ensures.legal

pub returns-in_err-answer-clause-seen : goal.returns-in_err-answer-clause-seen
returns-in_err-answer-clause-seen g c =
    sees_all g.L.Origin.origin c.self.inside.history c.look.new.self c.args.place.now c.look.new.seat
    c.self.invariant.lawful c.look.ensures.looks c.look.ensures.whole c.look.ensures.legal c.look.ensures.seen

pub returns-clause-seen : goal.returns-clause-seen
returns-clause-seen g c =
    sees_all g.L.Origin.origin c.self.inside.history c.look.new.self c.args.place.now c.look.new.seat
    c.self.invariant.lawful c.look.ensures.looks c.look.ensures.whole c.look.ensures.legal c.look.ensures.seen
