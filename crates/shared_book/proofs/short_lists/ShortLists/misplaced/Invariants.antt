use Rattle.std.proofs.Common.{drop}
use Rattle.shared_book.proofs.ShortLemmas.{IsAtLists}
use Rattle.shared_book.proofs.short_lists.ShortLists.misplaced.Given as goal

abbrev pub invariant-loop-size : goal.invariant-loop-size
invariant-loop-size l = IsAtLists l.last l.self (drop l.size-index l.size-items) l.left
