-- Names with all their values, in byte order of the names.
use Rattle.std.specs.Prelude.{ℕ, List, [], ◌∷◌, map, String, string_bytes, Vec}
use Rattle.std.specs.declared.alloc.Global.{Global}
use Rattle.admin_json.specs.Scenarios.{json_of_scenario}
use Rattle.admin_json.specs.Written.{json_of_texts}
use Rattle.mock_request.specs.Values.{values_of}
use Rattle.request_data.specs.Grouped.{names_in}
use Rattle.scenario_core.specs.Scenarios.{States}
use Rattle.serde_json.specs.Data.{Data, Members, put}

abbrev pub Group : Type 0
Group = List ℕ × List (List ℕ)

abbrev pub groups_of : List (List ℕ × List ℕ) → List Group
groups_of pairs = map (λ name. (name, values_of name pairs)) (names_in pairs)

-- an entry of a map of lists of texts, as a group
abbrev pub group_of : String Global × Vec (List ℕ) Global → Group
group_of entry = (string_bytes entry.0, entry.1.items)

abbrev pub groups_in : List (String Global × Vec (List ℕ) Global) → List Group
groups_in entries = map group_of entries

-- the members, with each group's name and the list of its values
abbrev pub with_groups : List Group → Members → Members
with_groups [] ms = ms
with_groups (group ∷ groups) ms = with_groups groups (put group.0 (json_of_texts group.1) ms)

-- the value of a scenario and its states
abbrev pub group_json : States → Group → Data
group_json states group = json_of_scenario states group.0 group.1
