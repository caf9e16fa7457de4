use Rattle.std.proofs.Common.{◌≡◌, ◌∙◌, ap, arith, sym}
use Rattle.shared_history.specs.Inner.Lines.{entries_of}
use Rattle.shared_history.specs.Inner.Law.{head_of}
use Rattle.shared_history.specs.Seal.{seal}
use Rattle.shared_history.proofs.Lines.{entries_length}
use Rattle.shared_history.proofs.Seats.{seats_first}
use Rattle.shared_history.proofs.opened.Opened.named.Goals as goal

pub returns-clause-seen : goal.returns-clause-seen
returns-clause-seen g c =
    rw (← c.self.view_is)
    (seal g.C.Rule.may g.J.Naming.book (entries_of c.self.inside.seen.log) c.self.invariant.has.legal.history)

pub invariant_of-result : goal.invariant_of-result
invariant_of-result g c =
    let name : c.self.inside.seen.book ≡ g.J.Naming.book = ap (λ p. p.0) c.self.view_is ∙ c.requires in
    record {
      head_is = c.self.invariant.head_is ∙ ap head_of name;
      front = record { name = name; counted = sym c.self.invariant.one; legal = c.self.invariant.has.legal };
      has_seats = seats_first (entries_of c.self.inside.seen.log)
          (entries_length c.self.inside.seen.log ∙ c.self.invariant.one);
      fits = omega arith;
    }
