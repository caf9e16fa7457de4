use Rattle.std.proofs.Common.{◌≡◌, ◌≤◌, ◌++◌, length, take}
use Rattle.book_history.specs.Inner.Shown.{found_by, visible_in}
use Rattle.book_history.proofs.journal.visible.Given as goal

abbrev pub invariant-loop-left : goal.invariant-loop-left
invariant-loop-left l =
    (l.left ≤ length l.events)
    × (visible_in (found_by l.shown) l.before l.events
    ≡ l.entries.items ++ visible_in (found_by l.shown) l.before (take l.left l.events))

abbrev pub decreases-loop-left : goal.decreases-loop-left
decreases-loop-left l = l.left
