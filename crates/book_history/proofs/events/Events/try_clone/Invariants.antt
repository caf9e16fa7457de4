use Rattle.std.proofs.Common.{◌≡◌, take}
use Rattle.book_history.proofs.events.Events.try_clone.Given as goal

abbrev pub invariant-loop-event : goal.invariant-loop-event
invariant-loop-event l = l.items.items ≡ take l.event-index l.event-items
