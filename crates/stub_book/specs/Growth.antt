-- How the past of a book grows.
use Rattle.std.specs.Prelude.{◌≡◌, ◌+◌, ℕ, List, [], ◌∷◌, MatchBool, cond, filter, length}
use Rattle.mock_request.specs.Request.{Request}
use Rattle.request_journal.specs.Input.{IsAsked, answer_of}
use Rattle.request_journal.specs.Journal.{clears}
use Rattle.request_journal.specs.Legal.{IsNext, IsCheckpoint}
use Rattle.request_journal.specs.Live.{live}
use Rattle.request_journal.specs.Past.{Past, Placed, has_id, with_event}
use Rattle.request_journal.specs.declared.event.Event.{Event}
use Rattle.request_journal.specs.declared.event.Event.TheVariants as event
use Rattle.request_journal.specs.declared.event.ServeAnswer.{ServeAnswer}
use Rattle.request_journal.specs.declared.input.BookAnswer.{BookAnswer}
use Rattle.request_journal.specs.declared.input.BookInput.{BookInput}
use Rattle.request_journal.specs.declared.mapping.Mapping.{Mapping}
use Rattle.stub_book.specs.declared.accepted.Accepted.{Accepted}
use Rattle.stub_book.specs.declared.accepted.Changed.{Changed}

-- the past after an event: the old one with it, or, where it clears the journal, a checkpoint of the old one with it
abbrev pub IsAfter : Past → Event → Past → Type 0
IsAfter old added new =
    MatchBool (clears added)
    ((base : Past) × IsCheckpoint old base × (new ≡ with_event base added))
    (new ≡ with_event old added)

-- by one event, which is what was asked for with the answer that the past demands
pub record Grows (old new : Past) (added : Event) : Type 0 where
  pub next : IsNext old added
  pub after : IsAfter old added new

-- by one such event, which is this input, and it was given back with its answer
pub record IsAccepted (old new : Past) (asked : BookInput) (accepted : Accepted) : Type 0 where
  pub asked_for : IsAsked asked accepted.event
  pub answered : accepted.answer ≡ answer_of accepted.event
  pub grows : Grows old new accepted.event

-- the same, but the answer alone was given back
abbrev pub Applies : Past → Past → BookInput → BookAnswer → Type 0
Applies old new asked answer =
    (event : Event) × IsAccepted old new asked (record { event = event; answer = answer })

-- the event is that of the request, with whatever answer
abbrev pub IsServed : Request → Event → Type 0
IsServed request served = (answer : ServeAnswer) × (served ≡ event.Serve request answer)

-- ---- what gives way to mappings that are added

-- how many live mappings have the id of one of these
abbrev pub named_by : List Mapping → List Placed → ℕ
named_by mappings placed = length (filter (λ p. has_id mappings p.mapping.id) placed)

-- how many of these have the id of a later one
abbrev pub repeated : List Mapping → ℕ
repeated [] = 0
repeated (m ∷ ms) = cond (has_id ms m.id) (repeated ms + 1) (repeated ms)

-- how many mappings give way to one with their id that the event adds to the past: live ones, and at a stop of a
-- recording also those that a later one of the same event has the id of
abbrev pub replaced : Past → Event → ℕ
replaced past (event.Add mapping) = named_by (mapping ∷ []) (live past)
replaced past (event.StopRecording mappings skipped) = named_by mappings (live past) + repeated mappings
replaced past other = 0

-- the past has grown by one such event, which was given back with how many mappings gave way to what it adds
pub record Changes (old new : Past) (changed : Changed) : Type 0 where
  pub grows : Grows old new changed.event
  pub so_many : changed.replaced ≡ replaced old changed.event
