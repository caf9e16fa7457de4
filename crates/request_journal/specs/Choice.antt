-- Which mapping is chosen for a request (WireMock's documentation, "Stubbing", on priority, and "Stateful
-- Behaviour"): of the eligible live ones that of the least priority number, and of these the newest. It is said of any
-- list of live mappings and any states of scenarios, and then of those of a past.
use Rattle.std.specs.Prelude.{◌≡◌, ◌⊎◌, ◌<◌, ◌<ℤ◌, ℕ, List, Contains, Option, Some, None, IfSome}
use Rattle.mapping_model.specs.Priority.{priority_of}
use Rattle.mapping_model.specs.declared.scenario_spec.ScenarioSpec.{ScenarioSpec}
use Rattle.mock_request.specs.Request.{Request}
use Rattle.recorder.specs.Recording.{IsOn, IsOnAnd}
use Rattle.request_match.specs.Matching.{MeetsRequest}
use Rattle.request_journal.specs.Live.{live}
use Rattle.request_journal.specs.Past.{Past, Place, Placed}
use Rattle.request_journal.specs.Recording.{recording}
use Rattle.request_journal.specs.State.{state}
use Rattle.request_journal.specs.declared.event.ServeAnswer.{ServeAnswer}
use Rattle.request_journal.specs.declared.event.ServeAnswer.TheVariants.{Stub, Proxy, Unmatched}
use Rattle.request_journal.specs.declared.mapping.Mapping.{Mapping}

-- the scenario of the mapping, if it has one, is in the state that the mapping requires, if it requires one
abbrev pub IsReady : (List ℕ → List ℕ) → Option ScenarioSpec → Type 0
IsReady state_of None = Unit {0}
IsReady state_of (Some scenario) = IfSome scenario.required (λ required. state_of scenario.name ≡ required)

-- the request meets the mapping's matcher, and its scenario is ready
pub record IsEligible (state_of : List ℕ → List ℕ) (request : Request) (mapping : Mapping) : Type 0 where
  pub meets : MeetsRequest mapping.spec.request request
  pub ready : IsReady state_of mapping.spec.scenario

-- a later event, or a later one of the same event
abbrev pub IsNewer : Place → Place → Type 0
IsNewer a b = (b.event < a.event) ⊎ ((a.event ≡ b.event) × (b.index < a.index))

-- the first wins over the second: by a lower priority number, or as the newer of equals
abbrev pub WinsOver : Placed → Placed → Type 0
WinsOver a b =
    (priority_of a.mapping.spec.priority <ℤ priority_of b.mapping.spec.priority)
    ⊎ ((priority_of a.mapping.spec.priority ≡ priority_of b.mapping.spec.priority) × IsNewer a.place b.place)

-- no live mapping is eligible
abbrev pub IsMissed : (List ℕ → List ℕ) → List Placed → Request → Type 0
IsMissed state_of live request =
    (placed : Placed) → Contains live placed → ¬ (IsEligible state_of request placed.mapping)

-- the mapping is live and eligible, and no other one that is wins over it
pub record IsChosen (state_of : List ℕ → List ℕ) (live : List Placed) (request : Request)
    (mapping : Mapping) : Type 0 where
  pub placed : Placed
  pub same : placed.mapping ≡ mapping
  pub is_live : Contains live placed
  pub eligible : IsEligible state_of request mapping
  pub best : (other : Placed) → Contains live other → IsEligible state_of request other.mapping
      → ¬ (WinsOver other placed)

-- what a request is answered with: a request that no mapping is eligible for is forwarded where a recording is on
abbrev pub IsChoice : Past → Request → ServeAnswer → Type 0
IsChoice past request (Stub captured) = IsChosen (state past) (live past) request captured.mapping
IsChoice past request (Proxy target) =
    IsMissed (state past) (live past) request × IsOnAnd (recording past) (λ session. session.target ≡ target)
IsChoice past request Unmatched = IsMissed (state past) (live past) request × ¬ (IsOn (recording past))
