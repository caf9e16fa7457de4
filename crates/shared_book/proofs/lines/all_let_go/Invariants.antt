use Rattle.std.proofs.Common.{◌≡◌, ◌+◌, ◌≤◌, length, vec_len, vec_capacity}
use Rattle.std.specs.List.{AllZip}
use Rattle.shared_book.specs.Held.{LetsGo}
use Rattle.shared_book.specs.Inner.Seat.{lines_in}
use Rattle.shared_book.proofs.lines.all_let_go.Given as goal

abbrev pub invariant-loop-pile : goal.invariant-loop-pile
invariant-loop-pile l = record {
  can_next : (goal.iterator-loop-pile).can_next l.pile-iterator;
  ends : (goal.iterator-loop-pile).is_finite l.pile-iterator;
  lines : AllZip (LetsGo (λ n. n ≤ l.last)) (lines_in l.yielded) (lines_in l.left.items);
  left : l.pile-iterator.rest.len + length l.yielded ≡ vec_len l.fn.piles;
  few : vec_len l.left ≤ length l.yielded;
  capacity : vec_capacity l.fn.empty ≤ vec_capacity l.left;
}
