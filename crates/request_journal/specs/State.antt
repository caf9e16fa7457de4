-- In which state each scenario is: where the last event that touched it left it.
use Rattle.std.specs.Prelude.{◌≡◌, ◌⊎◌, ℕ, List, Option, Some, None, Any, unwrap_or, cond}
use Rattle.std.specs.Str.{bytes_eq}
use Rattle.mapping_model.specs.declared.scenario_spec.ScenarioSpec.{ScenarioSpec}
use Rattle.scenario_core.specs.Scenarios.{started, state_of}
use Rattle.request_journal.specs.Events.{last_of}
use Rattle.request_journal.specs.Live.{live}
use Rattle.request_journal.specs.Past.{Past}
use Rattle.request_journal.specs.declared.event.Event.{Event}
use Rattle.request_journal.specs.declared.event.Event.TheVariants as event
use Rattle.request_journal.specs.declared.event.ServeAnswer.TheVariants.{Stub}

-- the state to which serving a mapping with this part in a scenario moves the scenario of this name
abbrev pub next_state : Option ScenarioSpec → List ℕ → Option (List ℕ)
next_state None name = None
next_state (Some scenario) name = cond (bytes_eq scenario.name name) scenario.next None

-- the state in which the event leaves the scenario, if it touches it
abbrev pub touch : List ℕ → Event → Option (List ℕ)
touch name (event.Serve request (Stub captured)) = next_state captured.mapping.spec.scenario name
touch name (event.SetScenario set state) = cond (bytes_eq set name) (Some state) None
touch name event.ResetScenarios = Some started
touch name event.ResetAll = Some started
touch name other = None

-- the state of the scenario with this name
abbrev pub state : Past → List ℕ → List ℕ
state past name = unwrap_or (last_of (touch name) past.events) (state_of past.base.states name)

-- the states of all scenarios before the event and after it: each is where the event leaves it, if the event touches it,
-- and else where it was
abbrev pub StatesFollow : (List ℕ → List ℕ) → (List ℕ → List ℕ) → Event → Type 0
StatesFollow before after event = (name : List ℕ) → after name ≡ unwrap_or (touch name event) (before name)

-- the mapping plays a part in the scenario, and names the state
abbrev pub IsIn : List ℕ → Option ScenarioSpec → Type 0
IsIn name None = ⊥
IsIn name (Some scenario) = scenario.name ≡ name

abbrev pub Names : List ℕ → List ℕ → Option ScenarioSpec → Type 0
Names name state None = ⊥
Names name state (Some scenario) =
    (scenario.name ≡ name) × ((scenario.required ≡ Some state) ⊎ (scenario.next ≡ Some state))

-- a live mapping names the scenario
abbrev pub IsKnown : Past → List ℕ → Type 0
IsKnown past name = Any (λ p. IsIn name p.mapping.spec.scenario) (live past)

-- the scenario is known and may be in the state: each may be in `Started`, and in the states that live mappings name
abbrev pub HasState : Past → List ℕ → List ℕ → Type 0
HasState past name state =
    IsKnown past name × ((state ≡ started) ⊎ Any (λ p. Names name state p.mapping.spec.scenario) (live past))
