use Rattle.std.proofs.Common.{◌≡◌, take}
use Rattle.request_match.specs.Matching.{MeetsRequest}
use Rattle.request_journal.specs.Journal.{Picks}
use Rattle.book_history.proofs.pick.pick.Given as goal

abbrev pub invariant-loop-entry : goal.invariant-loop-entry
invariant-loop-entry l =
    (l.matcher ≡ l.fn.matcher)
    × Picks (λ entry. MeetsRequest l.fn.matcher entry.request) (take l.entry-index l.entries) l.found.items
