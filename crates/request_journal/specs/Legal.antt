-- Which pasts are legal: each event is the answer to what was asked for, in the past before it.
use Rattle.std.specs.Prelude.{◌≡◌, ◌⊎◌, ℕ, ◌+◌, ◌<◌, ◌≤◌, List, [], ◌∷◌, ◌++◌}
use Rattle.std.specs.Prelude.{length, Any, true, filter_map, option_map, unwrap_or}
use Rattle.mapping_model.specs.MappingId.{event_id}
use Rattle.mapping_model.specs.declared.mapping_spec.MappingSpec.{MappingSpec}
use Rattle.recorder.specs.Recording.{IsOn, IsOnAnd, TakesFrom, IsFull}
use Rattle.recorder.specs.Stubs.{recorded_mappings, recorded_skipped}
use Rattle.recorder.specs.Target.{IsTarget}
use Rattle.scenario_core.specs.Scenarios.{state_of}
use Rattle.request_journal.specs.Choice.{IsChoice}
use Rattle.request_journal.specs.Journal.{clears}
use Rattle.request_journal.specs.Live.{live}
use Rattle.request_journal.specs.Past.{Past, opening_base, with_events, with_event, last_number}
use Rattle.request_journal.specs.Recording.{recording}
use Rattle.request_journal.specs.State.{state, HasState}
use Rattle.request_journal.specs.declared.event.Event.{Event}
use Rattle.request_journal.specs.declared.event.Event.TheVariants as event
use Rattle.request_journal.specs.declared.limits.TheConstants.{LIVE_LIMIT, NUMBER_LIMIT}
use Rattle.request_journal.specs.declared.mapping.Mapping.{Mapping}

-- a live mapping has this id
abbrev pub IsLive : Past → List ℕ → Type 0
IsLive past id = Any (λ p. p.mapping.id ≡ id) (live past)

-- an exchange may be added to the recording: one is on that was started before the serve of this number and has room
pub record IsTaken (past : Past) (serve : ℕ) : Type 0 where
  pub takes : TakesFrom (recording past) serve
  pub known : serve ≤ last_number past
  pub room : ¬ (IsFull (recording past))

-- the mappings of documents that give their ids, under these
abbrev pub identified : List MappingSpec → List Mapping
identified specs = filter_map (λ spec. option_map (λ id. record { id = id; spec = spec }) spec.id) specs

-- the event, as the next one of the past, is what was asked for with its answer
abbrev pub IsAnswer : Past → Event → Type 0
IsAnswer past (event.Serve request answer) = IsChoice past request answer
IsAnswer past (event.Add mapping) = mapping.id ≡ unwrap_or mapping.spec.id (event_id (last_number past + 1))
IsAnswer past (event.Edit id spec) = IsLive past id
IsAnswer past (event.Delete id) = IsLive past id
IsAnswer past (event.SetScenario name state) = HasState past name state
IsAnswer past (event.StartRecording target captured repeats) = ¬ (IsOn (recording past)) × IsTarget target
IsAnswer past (event.Record serve exchange) = IsTaken past serve
IsAnswer past (event.StopRecording mappings skipped) =
    IsOnAnd (recording past) (λ session.
    (mappings ≡ identified (recorded_mappings session (last_number past + 1)))
    × (skipped ≡ recorded_skipped session))
IsAnswer past other = Unit {0}

-- one more event is the right answer, and leaves no more mappings live, and no greater number, than there may be
pub record IsNext (past : Past) (event : Event) : Type 0 where
  pub answer : IsAnswer past event
  pub few_live : length (live (with_event past event)) ≤ LIVE_LIMIT
  pub has_room : last_number past < NUMBER_LIMIT

-- nothing was dropped, or the first event kept is the one that made the checkpoint
abbrev pub BeginsWell : Past → Type 0
BeginsWell past =
    (past.base ≡ opening_base past.opening past.defaults)
    ⊎ ((first : Event) × (rest : List Event) × (past.events ≡ first ∷ rest) × (clears first ≡ true))

-- each event is the next one of the past before it
pub record IsLegal (past : Past) : Type 0 where
  pub begins : BeginsWell past
  pub has_room : past.base.number ≤ NUMBER_LIMIT
  pub few_live : length past.base.live ≤ LIVE_LIMIT
  pub answers : (earlier later : List Event) (event : Event) → past.events ≡ earlier ++ event ∷ later
      → IsNext (with_events past earlier) event

-- the new past has no events, and its base says what the old one left
pub record IsCheckpoint (old new : Past) : Type 0 where
  pub same_opening : new.opening ≡ old.opening
  pub same_defaults : new.defaults ≡ old.defaults
  pub same_number : new.base.number ≡ last_number old
  pub same_live : new.base.live ≡ live old
  pub same_states : (name : List ℕ) → state_of new.base.states name ≡ state old name
  pub same_recording : new.base.recording ≡ recording old
  pub no_events : new.events ≡ []
