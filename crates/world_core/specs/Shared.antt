-- The one history of a shared book as a schedule, and what is so of each event in it.
use Rattle.std.specs.Prelude.{◌≡◌, ◌↔◌, ℕ, List, [], ◌∷◌, ◌++◌}
use Rattle.mock_request.specs.Request.{Request}
use Rattle.request_journal.specs.Choice.{IsChoice}
use Rattle.request_journal.specs.Legal.{IsNext}
use Rattle.request_journal.specs.Live.{live}
use Rattle.request_journal.specs.Past.{Past, with_events}
use Rattle.request_journal.specs.Recording.{recording}
use Rattle.request_journal.specs.State.{StatesFollow, state}
use Rattle.request_journal.specs.declared.event.Event.{Event}
use Rattle.request_journal.specs.declared.event.Event.TheVariants as event
use Rattle.request_journal.specs.declared.event.ServeAnswer.{ServeAnswer}
use Rattle.request_journal.specs.declared.input.BookInput.TheVariants as input
use Rattle.shared_book.specs.Reached.{IsPastOf, Log}
use Rattle.shared_history.specs.Entries.{events}
use Rattle.shared_history.specs.declared.entry.Deed.TheVariants.{Called, Left, Looked, Opened, Split}
use Rattle.world_core.specs.Laws.{events_of}
use Rattle.world_core.specs.Schedule.{IsRun, Outcome, WorldState}
use Rattle.shared_book.specs.declared.script.Call.{Call}
use Rattle.shared_book.specs.declared.script.Call.TheVariants.{Serve, Apply}
use Rattle.world_core.specs.declared.step.Step.{Step}
use Rattle.world_core.specs.declared.step.Step.TheVariants.{Act}

-- the call that asks for the event
abbrev pub call_of : Event → Call
call_of (event.Serve request answer) = Serve request
call_of (event.Add mapping) = Apply (input.Add mapping.spec)
call_of (event.Edit id spec) = Apply (input.Edit id spec)
call_of (event.Delete id) = Apply (input.Delete id)
call_of event.DeleteAll = Apply input.DeleteAll
call_of event.ResetMappings = Apply input.ResetMappings
call_of event.ResetAll = Apply input.ResetAll
call_of event.ResetScenarios = Apply input.ResetScenarios
call_of (event.SetScenario name state) = Apply (input.SetScenario name state)
call_of event.ClearJournal = Apply input.ClearJournal
call_of (event.StartRecording target captured repeats) = Apply (input.StartRecording target captured repeats)
call_of (event.Record serve exchange) = Apply (input.Record serve exchange)
call_of (event.StopRecording mappings skipped) = Apply input.StopRecording

-- the schedule of the calls of a history, each by the seat that made it, one after the other
abbrev pub calling : Log → List Step
calling [] = []
calling (e ∷ log) =
    elim e.deed [
      | Opened origin ↦ calling log
      | Called event ↦ Act e.seat (call_of event) ∷ calling log
      | Looked ↦ calling log
      | Split ↦ calling log
      | Left ↦ calling log
    ]

-- the schedule of a history's calls leads from the past in which the book was shared to the past after them, with the
-- very events of the history
pub record IsScheduled (start : WorldState) (log : Log) (past : Past) : Type 0 where
  pub outcomes : List Outcome
  pub end : WorldState
  pub run : IsRun start (calling log) outcomes end
  pub same_past : end.past ≡ past
  pub same_events : events_of outcomes ≡ events log

-- The event is the right answer in the past after these entries, and moves each scenario that it touches, and no other.
pub record IsRightAfter (origin : Past) (before : Log) (event : Event) (with : Log) : Type 0 where
  pub old : Past
  pub past_of : IsPastOf origin before old
  pub next : IsNext old event
  pub new : Past
  pub then : IsPastOf origin with new
  pub moves : StatesFollow (state old) (state new) event

-- ---- what checkpoints leave

-- the same mappings are live, each scenario is in the same state, the same recording is on or was the last, and each
-- request has the same choice
pub record IsSameBook (one other : Past) : Type 0 where
  pub same_live : live other ≡ live one
  pub same_states : (name : List ℕ) → state other name ≡ state one name
  pub same_recording : recording other ≡ recording one
  pub same_choice : (request : Request) (answer : ServeAnswer)
      → IsChoice one request answer ↔ IsChoice other request answer

-- the past with these events too, of which none is dropped
abbrev pub with_all : Past → List Event → Past
with_all past events = with_events past (past.events ++ events)
