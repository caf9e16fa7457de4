use Rattle.std.proofs.Common.{List, ◌∙◌, subst, sym}
use Rattle.shared_book.proofs.EndLemmas.{settled_ended}
use Rattle.shared_book.specs.Held.{Held}
use Rattle.shared_book.specs.Inner.Ends.{HaveAgreed}
use Rattle.shared_book.specs.Inner.Kept.{Content}
use Rattle.shared_book.proofs.locked.Locked.settle.Goals as goal

pub returns-in-Ok-clause-settled : goal.returns-in-Ok-clause-settled
returns-in-Ok-clause-settled g c =
    settled_ended g.L.Origin.origin g.L.Ledger.parts g.L.Naming.book c.self.inside.history c.leave_all.new.history
    c.self.inside.book c.args.seats.items c.in-Ok.settled
    (subst (λ (locked : Content). HaveAgreed g.L.Origin.origin g.L.Ledger.parts locked.whole locked.past
    c.args.seats.items c.in-Ok.settled) (sym (c.self.view_is ∙ c.agree.ensures.same))
    (subst (λ (seats : List Held). HaveAgreed g.L.Origin.origin g.L.Ledger.parts c.args.self.now.whole
    c.args.self.now.past seats c.in-Ok.settled) c.as_mut_slice.ensures.value c.in-Ok.ensures.agreed))
    c.leave_all.ensures.ends
