-- What a book keeps agrees with its past.
use Rattle.std.specs.Prelude.{◌≡◌, ◌≤◌, ℕ, List, length}
use Rattle.std.specs.List.Sorted.{IsPermutation}
use Rattle.mapping_store.specs.Stored.{Stored}
use Rattle.recorder.specs.Recording.{IsOn, IsOnAnd}
use Rattle.recorder.specs.declared.recording.Recording.{Recording}
use Rattle.request_journal.specs.Input.{answer_of}
use Rattle.request_journal.specs.Legal.{IsLegal}
use Rattle.request_journal.specs.Live.{live}
use Rattle.request_journal.specs.Past.{Past, last_number, placed_from}
use Rattle.request_journal.specs.Recording.{recording}
use Rattle.request_journal.specs.State.{state}
use Rattle.request_journal.specs.declared.event.Event.{Event}
use Rattle.request_journal.specs.declared.event.ServeAnswer.{ServeAnswer}
use Rattle.request_journal.specs.declared.event.ServeAnswer.TheVariants.{Stub, Proxy, Unmatched}
use Rattle.request_journal.specs.declared.limits.TheConstants.{LIVE_LIMIT, NUMBER_LIMIT}
use Rattle.scenario_core.specs.Scenarios.{States, state_of}
use Rattle.stub_book.specs.declared.prepared.Prepared.{Prepared}

-- the store has the live mappings, the states are those of the past, and so is the recording; the past is legal, and
-- neither its mappings, nor those that a reset makes live, nor its events are more than there may be
pub record Agrees (past : Past) (stored : Stored) (scenarios : States) (kept : Recording) : Type 0 where
  pub same_defaults : stored.defaults ≡ past.defaults
  pub same_live : IsPermutation (live past) stored.live
  pub same_states : (name : List ℕ) → state_of scenarios name ≡ state past name
  pub same_recording : kept ≡ recording past
  pub legal : IsLegal past
  pub few_live : length (live past) ≤ LIVE_LIMIT
  pub few_defaults : length (placed_from 0 0 past.defaults) ≤ LIVE_LIMIT
  pub has_room : last_number past ≤ NUMBER_LIMIT

-- what a request is answered with that no mapping was chosen for
abbrev pub IsUnchosen : Recording → ServeAnswer → Type 0
IsUnchosen recording (Stub captured) = ⊥
IsUnchosen recording (Proxy target) = IsOnAnd recording (λ session. session.target ≡ target)
IsUnchosen recording Unmatched = ¬ (IsOn recording)

-- prepared is this event, with its answer
pub record IsPrepared (event : Event) (made : Prepared) : Type 0 where
  pub is : made.event ≡ event
  pub shared : made.accepted.event ≡ event
  pub answered : made.accepted.answer ≡ answer_of event
