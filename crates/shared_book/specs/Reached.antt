-- The one history of a shared book: what its seats entered, which of that are calls that were accepted, and the pasts
-- that these lead to.
use Rattle.std.specs.Prelude.{◌≡◌, List, [], ◌∷◌}
use mathlib.Core.List.{IsPrefix}
use Rattle.request_journal.specs.Past.{Past}
use Rattle.request_journal.specs.declared.event.Event.{Event}
use Rattle.shared_history.specs.Entries.{events}
use Rattle.shared_history.specs.History.{IsHistory}
use Rattle.shared_history.specs.declared.entry.Entry.{Entry}
use Rattle.stub_book.specs.Growth.{Grows}

-- the entries of a history, or of a beginning of it
abbrev pub Log : Type 0
Log = List (Entry Past Event)

-- these events, each the right answer in the past that those before it left, lead from one past to another
abbrev pub Lead : Past → List Event → Past → Type 0
Lead old [] new = old ≡ new
Lead old (event ∷ events) new = (next : Past) × Grows old next event × Lead next events new

-- the event is the right answer after these
abbrev pub MayFollow : Past → List Event → Event → Type 0
MayFollow origin before event = (old : Past) × (new : Past) × Lead origin before old × Grows old new event

-- the log is a history of a book that had the past `origin` when it was shared
pub record IsLawful (origin : Past) (log : Log) : Type 0 where
  pub history : IsHistory MayFollow log
  pub opened : history.origin ≡ origin

-- the past after the calls of the log
abbrev pub IsPastOf : Past → Log → Past → Type 0
IsPastOf origin log past = Lead origin (events log) past

-- the fact holds of the past after the calls of the log
abbrev pub InPastOf : Past → Log → (Past → Type 0) → Type 0
InPastOf origin log P = (past : Past) × IsPastOf origin log past × P past

-- the past after those of a beginning of the log
pub record IsReached (origin : Past) (log : Log) (past : Past) : Type 0 where
  pub front : Log
  pub begins : IsPrefix front log
  pub past_of : IsPastOf origin front past
