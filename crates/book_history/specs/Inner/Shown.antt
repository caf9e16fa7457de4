-- What a list of events shows.
use Rattle.std.specs.Prelude.{ℕ, ◌+◌, List, Option, reverse, filter_map, option_map}
use Rattle.mock_request.specs.Request.{Request}
use Rattle.request_journal.specs.Events.{Numbered, numbered, after_last}
use Rattle.request_journal.specs.Journal.{clears, request_of, unmatched_of}
use Rattle.request_journal.specs.declared.entry.Entry.{Entry}
use Rattle.request_journal.specs.declared.event.Event.{Event}
use Rattle.book_history.specs.declared.journal.Shown.{Shown}
use Rattle.book_history.specs.declared.journal.Shown.TheVariants.{All, Unmatched}

abbrev pub found_by : Shown → Event → Option Request
found_by All event = request_of event
found_by Unmatched event = unmatched_of event

abbrev pub entry_of : (Event → Option Request) → Numbered → Option Entry
entry_of found n = option_map (λ r. record { number = n.number; request = r }) (found n.event)

-- what is found in events that come after the one with a number, after the last that clears, newest first
abbrev pub visible_in : (Event → Option Request) → ℕ → List Event → List Entry
visible_in found before events =
    reverse (filter_map (entry_of found) (after_last (λ n. clears n.event) (numbered (before + 1) events)))
