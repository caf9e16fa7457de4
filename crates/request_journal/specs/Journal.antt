-- What the journal shows: the requests served since it was last cleared.
use Rattle.std.specs.Prelude.{◌≡◌, ◌⊎◌, ℕ, ◌==◌, Bool, true, false, List, [], ◌∷◌, length}
use Rattle.std.specs.Prelude.{filter_map, reverse, Option, Some, None, option_map, find}
use Rattle.mock_request.specs.Request.{Request}
use Rattle.request_journal.specs.Events.{after_last}
use Rattle.request_journal.specs.Past.{Past, numbered_events}
use Rattle.request_journal.specs.declared.entry.Entry.{Entry}
use Rattle.request_journal.specs.declared.event.Event.{Event}
use Rattle.request_journal.specs.declared.event.Event.TheVariants as event
use Rattle.request_journal.specs.declared.event.ServeAnswer.TheVariants.{Unmatched}

-- the event clears what the journal shows
abbrev pub clears : Event → Bool
clears event.ClearJournal = true
clears event.ResetAll = true
clears other = false

-- the request that the event served, and that it served unmatched
abbrev pub request_of : Event → Option Request
request_of (event.Serve request answer) = Some request
request_of other = None

abbrev pub unmatched_of : Event → Option Request
unmatched_of (event.Serve request Unmatched) = Some request
unmatched_of other = None

-- what is found in the events after the last that clears, newest first
abbrev pub visible : (Event → Option Request) → Past → List Entry
visible found past =
    reverse (filter_map
    (λ n. option_map (λ r. record { number = n.number; request = r }) (found n.event))
    (after_last (λ n. clears n.event) (numbered_events past)))

-- all requests, however they were answered
abbrev pub requests : Past → List Entry
requests = visible request_of

-- those that no mapping matched and that weren't proxied
abbrev pub unmatched : Past → List Entry
unmatched = visible unmatched_of

-- the event of this number, where it is kept
abbrev pub event_at : Past → ℕ → Option Event
event_at past number = option_map (λ n. n.event) (find (λ n. n.number == number) (numbered_events past))

-- the second list is the items of the first that the fact holds of, in their order
abbrev pub Picks : {X : Type 0} → (X → Type 0) → List X → List X → Type 0
Picks P [] ys = ys ≡ []
Picks {X} P (x ∷ xs) ys =
    ((rest : List X) × (ys ≡ x ∷ rest) × P x × Picks P xs rest) ⊎ (¬ (P x) × Picks P xs ys)

-- as many items of the list as the fact holds of
abbrev pub IsCount : {X : Type 0} → (X → Type 0) → List X → ℕ → Type 0
IsCount {X} P xs count = (picked : List X) × Picks P xs picked × (count ≡ length picked)
