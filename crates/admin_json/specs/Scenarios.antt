-- The JSON of scenarios, as `/scenarios` answers (WireMock's documentation, "Stateful Behaviour"): those that mappings
-- name, each with the states in which it may be and the one in which it is.
use Rattle.std.specs.Prelude.{ℕ, List, [], ◌∷◌, ◌++◌, Bool, not, Option, Some, None, map, codes}
use Rattle.std.specs.List.{filter, flat_map}
use Rattle.std.specs.Str.{bytes_eq}
use Rattle.admin_json.specs.Names.{in_order}
use Rattle.admin_json.specs.Written.{json_of_texts, only_member}
use Rattle.mapping_model.specs.declared.scenario_spec.ScenarioSpec.{ScenarioSpec}
use Rattle.mock_request.specs.Values.{values_of}
use Rattle.request_data.specs.Grouped.{names_in}
use Rattle.request_journal.specs.declared.mapping.Mapping.{Mapping}
use Rattle.scenario_core.specs.Scenarios.{States, started, state_of}
use Rattle.serde_json.specs.Data.{Data, string, array, object, no_members, put}
use Rattle.serde_json.specs.View.{items_of}

-- the scenario with the state, if there is one
abbrev pub paired : List ℕ → Option (List ℕ) → List (List ℕ × List ℕ)
paired name None = []
paired name (Some state) = (name, state) ∷ []

-- the scenario with each state in which it may be after this mapping: `Started`, and those that the mapping names
abbrev pub states_named : Option ScenarioSpec → List (List ℕ × List ℕ)
states_named None = []
states_named (Some scenario) =
    (scenario.name, started) ∷ (paired scenario.name scenario.required ++ paired scenario.name scenario.next)

abbrev pub named_by : List Mapping → List (List ℕ × List ℕ)
named_by mappings = flat_map (λ mapping. states_named mapping.spec.scenario) mappings

abbrev pub is_other : List ℕ → Bool
is_other state = not (bytes_eq state started)

-- `Started`, then the others in byte order
abbrev pub possible_states : List (List ℕ) → List (List ℕ)
possible_states states = started ∷ in_order (filter is_other states)

-- as {"name":"s","possibleStates":["Started","two"],"state":"Started"}; `named` are states in which it may be
abbrev pub json_of_scenario : States → List ℕ → List (List ℕ) → Data
json_of_scenario states name named =
    object (put (codes "state") (string (state_of states name))
    (put (codes "possibleStates") (json_of_texts (possible_states named))
    (put (codes "name") (string name) no_members)))

-- each name of the pairs, with the states that the pairs give it
abbrev pub json_of_named : States → List (List ℕ × List ℕ) → Data
json_of_named states named =
    array (items_of (map (λ name. json_of_scenario states name (values_of name named)) (names_in named)))

-- as {"scenarios":[..]}, in byte order of their names
abbrev pub json_of_scenarios : States → List Mapping → Data
json_of_scenarios states mappings = only_member (codes "scenarios") (json_of_named states (named_by mappings))
