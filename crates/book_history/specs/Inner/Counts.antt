-- What every history keeps of its parts.
use Rattle.std.specs.Prelude.{◌≡◌, ◌+◌, ◌≤◌, length}
use Rattle.request_journal.specs.declared.limits.TheConstants.{NUMBER_LIMIT}
use Rattle.book_history.specs.declared.parts.Parts.{Parts}

-- the number of the base is counted, and no event's number is over the limit
pub record Counts (parts : Parts) : Type 0 where
  pub base : parts.known.past.base.number ≡ parts.base
  pub limit : parts.base + length parts.events.items.items ≤ NUMBER_LIMIT
