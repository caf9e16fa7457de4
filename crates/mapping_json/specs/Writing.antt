-- The JSON of a mapping, with names in byte order: `request` and `response` always; what is absent is left out.
use Rattle.std.specs.Prelude.{ℕ, ℤ, List, Option, Some, None, option_map, codes}
use Rattle.json_reading.specs.Written.{with_field}
use Rattle.mapping_model.specs.declared.mapping_spec.MappingSpec.{MappingSpec}
use Rattle.mapping_model.specs.declared.scenario_spec.ScenarioSpec.{ScenarioSpec}
use Rattle.request_json.specs.RequestWritten.{json_of_request}
use Rattle.response_json.specs.Writing.{json_of_response}
use Rattle.serde_json.specs.Data.{Data, number, string, object, Members, no_members, put}
use Rattle.serde_json.specs.Find.{of_integer}
use Rattle.uuid.specs.Text.{hyphenated_text, lower}

-- the hyphenated text in lower case
abbrev pub json_of_id : List ℕ → Data
json_of_id id = string (hyphenated_text lower id)

abbrev pub json_of_priority : ℤ → Data
json_of_priority priority = number (of_integer priority)

abbrev pub with_text : List ℕ → Option (List ℕ) → Members → Members
with_text name text ms = with_field name (option_map string text) ms

abbrev pub with_scenario : Option ScenarioSpec → Members → Members
with_scenario None ms = ms
with_scenario (Some scenario) ms =
    with_text (codes "newScenarioState") scenario.next
    (with_text (codes "requiredScenarioState") scenario.required
    (put (codes "scenarioName") (string scenario.name) ms))

abbrev pub with_names : MappingSpec → Members → Members
with_names m ms =
    with_scenario m.scenario
    (with_field (codes "priority") (option_map json_of_priority m.priority)
    (with_text (codes "name") m.name
    (with_field (codes "id") (option_map json_of_id m.id) ms)))

unfoldable pub json_of_mapping : MappingSpec → Data
json_of_mapping m =
    object (put (codes "response") (json_of_response m.response)
    (put (codes "request") (json_of_request m.request) (with_names m no_members)))
