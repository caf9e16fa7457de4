use Rattle.std.proofs.Common.{subst}
use Rattle.shared_book.proofs.ReachedLemmas.{lawful_past}
use Rattle.shared_book.specs.Held.{Held, HoldReceipts, lists}
use Rattle.shared_book.specs.Reached.{IsLawful}
use Rattle.shared_book.proofs.seat.Seat.front.Goals as goal

pub returns-clause-past : goal.returns-clause-past
returns-clause-past g c =
    lawful_past g.L.Origin.origin c.args.self.now.seen
    (subst (λ (s : Held). IsLawful g.L.Origin.origin s.seen) c.self.view_is c.self.invariant.lawful)

pub returns-clause-receipts : goal.returns-clause-receipts
returns-clause-receipts g c =
    subst (λ (s : Held). HoldReceipts g.L.Origin.origin s.seen (lists s)) c.self.view_is c.self.invariant.receipts
