use Rattle.std.proofs.Common.{◌≡◌, ◌+◌, ◌≤◌, ◌∷◌, ◌++◌, length, vec_len, vec_capacity}
use Rattle.shared_book.specs.Held.{filled}
use Rattle.shared_book.specs.Inner.Seat.{line_of, lines_in}
use Rattle.shared_book.proofs.lines.add_lists.Given as goal

abbrev pub invariant-loop-pile : goal.invariant-loop-pile
invariant-loop-pile l = record {
  can_next : (goal.iterator-loop-pile).can_next l.pile-iterator;
  ends : (goal.iterator-loop-pile).is_finite l.pile-iterator;
  items : lines_in l.piles.items
      ≡ lines_in l.fn.piles.items ++ filled (line_of l.fn.own ∷ lines_in l.yielded);
  left : l.pile-iterator.rest.len + length l.yielded ≡ vec_len l.fn.joined;
  room : vec_len l.piles + vec_len l.fn.joined ≤ vec_capacity l.piles + length l.yielded;
}
