use Rattle.std.proofs.Common.{◌-◌, drop, take}
use Rattle.shared_book.proofs.ShortLemmas.{IsInList}
use Rattle.shared_book.proofs.short_lists.misplaced_in_next.Given as goal

abbrev pub invariant-loop : goal.invariant-loop
invariant-loop l =
    IsInList l.last (take l.size l.fn.left) (drop l.size l.fn.left) l.before (l.size - l.counter) l.left
