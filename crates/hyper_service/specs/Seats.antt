-- How the seats of connections are split off and joined.
use Rattle.std.specs.Prelude.{◌≡◌, ◌<◌, ◌≤◌, ◌-◌, Err, None, Ok, Option, Result, Some}
use Rattle.logbook.specs.Pages.{Book as HistoryName}
use Rattle.request_journal.specs.Past.{Past}
use Rattle.shared_book.specs.Held.{Held, HasLetGo, new_seat, with_seat}
use Rattle.shared_book.specs.Seen.{HasJoined, HasSplit}

-- a new seat with one of the parts, which is an entry of the one history; none where there is only one part
abbrev pub IsConnectionSplit : Past → HistoryName → Held → Held → Option Held → Type 0
IsConnectionSplit origin name old new (Some seat) =
    (1 < old.parts) × (seat ≡ new_seat seat.number seat.seen 1)
    × (new ≡ record old { parts = old.parts - 1; seen = new.seen }) × HasSplit origin name old new seat
IsConnectionSplit origin name old new None = (old.parts ≤ 1) × (new ≡ old)

-- the seat has taken over the other one, whose end is an entry; or hands it back, and is as it was
abbrev pub IsConnectionJoined : Past → HistoryName → Held → Held → Held → Result (Unit {0}) Held → Type 0
IsConnectionJoined origin name old other new (Ok _) =
    HasLetGo origin (with_seat old other) new × HasJoined origin name old other new
IsConnectionJoined origin name old other new (Err seat) = (seat ≡ other) × (new ≡ old)
