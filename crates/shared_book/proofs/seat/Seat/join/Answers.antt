use Rattle.std.proofs.Common.{◌≡◌, ◌+◌, ◌≤◌, ◌∷◌, ◌++◌, ℕ, List, arith, ap, subst, length, refl, rules}
use Rattle.std.specs.List.{AllZip}
use Rattle.shared_book.proofs.HeldLemmas.{count_joined}
use Rattle.shared_book.proofs.LetGoLemmas.{let_go_joined}
use Rattle.shared_book.proofs.SeatLemmas.{held_taken, told_joined}
use Rattle.shared_book.specs.Held.{Held, HasLetGo, LetsGo, all_numbers, filled, with_seat}
use Rattle.shared_book.specs.Inner.Seat.{line_of, lines_in}
use Rattle.shared_book.specs.Receipts.{Line}
use Rattle.shared_book.specs.Seen.{HasJoined}
use Rattle.shared_book.proofs.seat.Seat.join.Goals as goal

pub invariant_of-self-2 : goal.invariant_of-self-2
invariant_of-self-2 g c =
    let mine = c.self.invariant in
    let others = c.other.invariant in
    let last : ℕ = c.take_over.new.self.told in
    let lines : List Line = lines_in c.self.inside.lines.joined.items in
    let other : List Line =
    line_of c.other.inside.lines.own ∷ lines_in c.other.inside.lines.joined.items in
    let new : List Line = lines_in c.take_over.new.self.joined.items in
    let joined : AllZip (LetsGo (λ n. n ≤ last)) (lines ++ filled other) new =
    subst (λ (ls : List Line). AllZip (LetsGo (λ n. n ≤ last)) (ls ++ filled other) new)
    (ap lines_in c.reserve.ensures.items) c.take_over.ensures.joined in
    let all : length (all_numbers (line_of c.take_over.new.self.own ∷ new))
    ≡ length (all_numbers (line_of c.self.inside.lines.own ∷ lines)) + length (all_numbers other) =
    count_joined (λ n. n ≤ last) (line_of c.self.inside.lines.own) (line_of c.take_over.new.self.own) lines other new
    c.take_over.ensures.own joined in
    let sum : c.in-Some.count ≡ c.self.inside.count + c.other.inside.count = search rules in
    record {
      same_parts = omega (arith, mine.same_parts, others.same_parts, c.merge.ensures.parts);
      some = omega (arith, mine.some);
      fits = mine.fits;
      same_count = omega (arith, mine.same_count, others.same_count, c.merge.ensures.amount, sum);
      counted = omega (arith, mine.counted, others.counted, all, sum);
      lawful = c.join.ensures.lawful;
      dropped = told_joined g.L.Origin.origin c.self.inside.place c.other.inside.place c.join.new.place
          c.self.inside.lines.told c.other.inside.lines.told last c.join.ensures mine.dropped others.dropped
          c.take_over.ensures.told;
      receipts = held_taken g.L.Origin.origin c.self.inside.place c.other.inside.place c.join.new.place last
          (line_of c.self.inside.lines.own) (line_of c.take_over.new.self.own) lines other new c.join.ensures
          c.take_over.ensures.own joined mine.receipts others.receipts;
    }

pub returns-clause-ok : goal.returns-clause-ok
returns-clause-ok g c =
    let last : ℕ = c.take_over.new.self.told in
    let seat : Held = record {
      number = c.self.inside.place.number;
      seen = c.self.inside.place.seen;
      parts = c.self.inside.parts;
      own = line_of c.self.inside.lines.own;
      joined = lines_in c.self.inside.lines.joined.items;
      replaced = c.self.inside.replaced;
    } in
    let other : Held = record {
      number = c.other.inside.place.number;
      seen = c.other.inside.place.seen;
      parts = c.other.inside.parts;
      own = line_of c.other.inside.lines.own;
      joined = lines_in c.other.inside.lines.joined.items;
      replaced = c.other.inside.replaced;
    } in
    let new : Held = record {
      number = c.join.new.place.number;
      seen = c.join.new.place.seen;
      parts = c.self.inside.parts + c.other.inside.parts;
      own = line_of c.take_over.new.self.own;
      joined = lines_in c.take_over.new.self.joined.items;
      replaced = c.self.inside.replaced;
    } in
    subst (λ (s : Held). HasLetGo g.L.Origin.origin (with_seat s c.args.other) new) c.self.view_is
    (subst (λ (o : Held). HasLetGo g.L.Origin.origin (with_seat seat o) new) c.other.view_is
    (let_go_joined g.L.Origin.origin last seat other new
    (told_joined g.L.Origin.origin c.self.inside.place c.other.inside.place c.join.new.place
    c.self.inside.lines.told c.other.inside.lines.told last c.join.ensures c.self.invariant.dropped
    c.other.invariant.dropped c.take_over.ensures.told)
    refl c.take_over.ensures.own
    (subst (λ (ls : List Line).
    AllZip (LetsGo (λ n. n ≤ last)) (ls ++ filled (other.own ∷ other.joined)) new.joined)
    (ap lines_in c.reserve.ensures.items) c.take_over.ensures.joined)))

pub returns-clause-joined : goal.returns-clause-joined
returns-clause-joined g c =
    let new : Held = record {
      number = c.join.new.place.number;
      seen = c.join.new.place.seen;
      parts = c.self.inside.parts + c.other.inside.parts;
      own = line_of c.take_over.new.self.own;
      joined = lines_in c.take_over.new.self.joined.items;
      replaced = c.self.inside.replaced;
    } in
    subst (λ (s : Held). HasJoined g.L.Origin.origin g.L.Naming.book s c.args.other new) c.self.view_is
    (subst (λ (o : Held). HasJoined g.L.Origin.origin g.L.Naming.book (record {
      number = c.self.inside.place.number;
      seen = c.self.inside.place.seen;
      parts = c.self.inside.parts;
      own = line_of c.self.inside.lines.own;
      joined = lines_in c.self.inside.lines.joined.items;
      replaced = c.self.inside.replaced;
    }) o new) c.other.view_is c.join.ensures)

pub returns-clause-replaced : goal.returns-clause-replaced
returns-clause-replaced g c = ap (λ (h : Held). h.replaced) c.self.view_is
