use Rattle.std.proofs.Common.{◌≡◌, ◌∷◌, [], List, ap, length, subst, sym}
use Rattle.shared_book.proofs.HoldLemmas.{held_none}
use Rattle.shared_book.proofs.ReachedLemmas.{dropped_none}
use Rattle.shared_book.specs.Held.{IsDropped, all_numbers}
use Rattle.shared_book.specs.Inner.Seat.{line_of, lines_in}
use Rattle.shared_book.specs.Receipts.{Line}
use Rattle.shared_book.proofs.seat.Seat.new.Goals as goal

pub invariant_of-result : goal.invariant_of-result
invariant_of-result g c =
    let empty : Line = record { let_go = []; held = [] } in
    let none : line_of c.new.result.own ∷ lines_in c.new.result.joined.items ≡ empty ∷ [] =
    λ i. c.new.ensures.own i ∷ lines_in (c.new.ensures.joined i) in
    record {
      same_parts = c.requires.parts;
      some = c.requires.some;
      fits = c.requires.fits;
      same_count = c.requires.empty;
      counted = sym (ap (λ (ls : List Line). length (all_numbers ls)) none);
      lawful = c.requires.lawful;
      dropped = subst (IsDropped g.L.Origin.origin c.args.place.seen) (sym c.new.ensures.told)
          (dropped_none g.L.Origin.origin c.args.place.seen);
      receipts = held_none g.L.Origin.origin c.args.place.seen
          (line_of c.new.result.own ∷ lines_in c.new.result.joined.items) none;
    }
