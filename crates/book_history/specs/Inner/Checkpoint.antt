-- A past whose events are dropped: what its base then says.
use Rattle.std.specs.Prelude.{ℕ, List, [], ◌∷◌, Option, None, Some}
use Rattle.std.specs.FinMap as map
use Rattle.mapping_model.specs.declared.scenario_spec.ScenarioSpec.{ScenarioSpec}
use Rattle.scenario_core.specs.Scenarios.{States}
use Rattle.request_journal.specs.Live.{live}
use Rattle.request_journal.specs.Past.{Past, opening_base, last_number}
use Rattle.request_journal.specs.Recording.{recording}
use Rattle.request_journal.specs.declared.event.Event.{Event}
use Rattle.request_journal.specs.declared.event.Event.TheVariants as event
use Rattle.request_journal.specs.declared.event.ServeAnswer.TheVariants.{Stub}
use Rattle.request_journal.specs.declared.mapping.Mapping.{Mapping}

-- that of a book that was just opened
abbrev pub just_opened : ℕ → List Mapping → Past
just_opened opening defaults =
    record { opening = opening; defaults = defaults; base = opening_base opening defaults; events = [] }

-- the states after a mapping with this next state of a scenario is served
abbrev pub moved_to : List ℕ → Option (List ℕ) → States → States
moved_to name None states = states
moved_to name (Some state) states = map.insert states name state

abbrev pub moved_by : Option ScenarioSpec → States → States
moved_by None states = states
moved_by (Some scenario) states = moved_to scenario.name scenario.next states

-- the states after an event
abbrev pub states_by : Event → States → States
states_by (event.Serve request (Stub captured)) states = moved_by captured.mapping.spec.scenario states
states_by (event.SetScenario name state) states = map.insert states name state
states_by event.ResetScenarios states = map.empty
states_by event.ResetAll states = map.empty
states_by other states = states

unfoldable pub states_after : List Event → States → States
states_after [] states = states
states_after (e ∷ es) states = states_after es (states_by e states)

-- the past with no events, and what they left as its base
unfoldable pub checkpointed : Past → Past
checkpointed past = record {
  opening = past.opening;
  defaults = past.defaults;
  base = record {
    number = last_number past;
    live = live past;
    states = states_after past.events past.base.states;
    recording = recording past;
  };
  events = [];
}
