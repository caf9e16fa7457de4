-- Replay: the mappings of a recording answer the recorded requests, sent again in their order, with
-- the recorded replies.
use Rattle.std.specs.Prelude.{◌≡◌, ◌≢◌, ◌↔◌, ◌+◌, ◌≤◌, ℕ, true, List, [], ◌∷◌}
use Rattle.std.specs.Prelude.{length, All, Any, Contains, IfSome, codes, filter_map}
use Rattle.std.specs.Str.Lossy.{utf8_lossy}
use Rattle.http_header.specs.FieldName.{IsHeaderName}
use Rattle.http_header.specs.Token.{is_value_byte}
use Rattle.mapping_model.specs.declared.mapping_spec.MappingSpec.{MappingSpec}
use Rattle.mapping_model.specs.declared.reply.Reply.{Reply}
use Rattle.recorder.specs.Stubs.{is_kept, mappings_of}
use Rattle.recorder.specs.declared.exchange.Exchange.{Exchange}
use Rattle.recorder.specs.declared.recording.Recording.TheVariants.{On}
use Rattle.recorder.specs.declared.recording.Session.{Session}
use Rattle.recorder.specs.declared.recording.TheConstants.{EXCHANGE_LIMIT}
use Rattle.request_journal.specs.Live.{live}
use Rattle.request_journal.specs.Past.{Past, last_number}
use Rattle.request_journal.specs.Recording.{recording}
use Rattle.request_journal.specs.State.{state}
use Rattle.request_journal.specs.declared.event.Captured.{Captured}
use Rattle.request_journal.specs.declared.event.Event.{Event}
use Rattle.request_journal.specs.declared.event.Event.TheVariants as event
use Rattle.request_journal.specs.declared.event.ServeAnswer.TheVariants.{Stub}
use Rattle.request_journal.specs.declared.mapping.Mapping.{Mapping}
use Rattle.request_journal.specs.declared.limits.TheConstants.{NUMBER_LIMIT}
use Rattle.scenario_core.specs.Scenarios.{started}
use Rattle.shared_book.specs.Reached.{Lead}
use Rattle.stub_book.specs.Growth.{repeated}
use Rattle.stub_response.specs.Response.{IsResponse}
use Rattle.stub_response.specs.declared.limits.Limits.{Limits}
use Rattle.world_core.specs.Schedule.{Outcome}
use Rattle.shared_book.specs.declared.script.Call.TheVariants.{Serve}
use Rattle.world_core.specs.declared.step.Step.{Step}
use Rattle.world_core.specs.declared.step.Step.TheVariants.{Act, Finish}

-- an actor sends the requests, each after the reply to the one before it
abbrev pub sending : ℕ → List Exchange → List Step
sending actor [] = []
sending actor (exchange ∷ exchanges) = Act actor (Serve exchange.request) ∷ Finish actor ∷ sending actor exchanges

abbrev pub replies_of : List Outcome → List Reply
replies_of outcomes = filter_map (λ outcome. outcome.reply) outcomes

-- exchanges that a recording with these captured headers gives back
pub record IsReplayable (captured : List (List ℕ)) (exchanges : List Exchange) : Type 0 where
  -- none of them is skipped, and they are no more than a recording takes
  pub kept : All (λ e. is_kept captured e ≡ true) exchanges
  pub few : length exchanges ≤ EXCHANGE_LIMIT
  -- header names are in lower case, as those of each received request, and no method is the one that stands for all
  pub names : All (λ e. All (λ h. IsHeaderName h.name) e.request.headers) exchanges
  pub methods : All (λ e. e.request.method ≢ codes "ANY") exchanges
  -- bodies that differ also differ as texts
  pub bodies : (a b : Exchange) → Contains exchanges a → Contains exchanges b
      → utf8_lossy a.request.body ≡ utf8_lossy b.request.body → a.request.body ≡ b.request.body
  -- the header values of replies have no control byte but tabs
  pub values : All (λ e. All (λ h. All (λ b. is_value_byte b ≡ true) h.value) e.reply.headers) exchanges

-- a past that is ready for them
pub record HasRecorded (captured : List (List ℕ)) (number : ℕ) (exchanges : List Exchange)
    (past : Past) : Type 0 where
  -- the live mappings are those that the stop with this number gave, equal requests as scenarios, and no others
  pub same_mappings : (spec : MappingSpec) → Any (λ p. p.mapping.spec ≡ spec) (live past)
      ↔ Contains (mappings_of captured exchanges true number) spec
  -- their scenarios are where they begin
  pub all_started : All (λ spec. IfSome spec.scenario (λ s. state past s.name ≡ started))
      (mappings_of captured exchanges true number)
  -- there is a number for each request
  pub room : last_number past + length exchanges ≤ NUMBER_LIMIT

-- ---- how a past becomes ready

-- A recording is on that keeps equal requests as scenarios, and no mapping is live; it is stopped, no two of its
-- mappings have one id, and the scenarios are reset.
pub record IsStoppedAndReset (old : Past) (session : Session) (ready : Past) : Type 0 where
  pub on : recording old ≡ On session
  pub repeats : session.repeats ≡ true
  pub alone : live old ≡ []
  pub mappings : List Mapping
  pub skipped : ℕ
  pub leads : Lead old (event.StopRecording mappings skipped ∷ event.ResetScenarios ∷ []) ready
  pub distinct : repeated mappings ≡ 0
  pub room : last_number ready + length session.exchanges ≤ NUMBER_LIMIT

-- ---- replay to a shared book

-- the event serves the recorded request by a version whose response is the recorded reply, and no other
abbrev pub GivesBack : Exchange → Event → Type 0
GivesBack exchange served =
    (captured : Captured) × (served ≡ event.Serve exchange.request (Stub captured))
    × ((limits : Limits) (reply : Reply) → IsResponse limits captured.mapping.spec exchange.request reply
    → reply ≡ exchange.reply)
