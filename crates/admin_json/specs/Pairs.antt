-- Names with values, in which a name may come more than once, as an object.
use Rattle.std.specs.Prelude.{ℕ, List, [], ◌∷◌}
use Rattle.admin_json.specs.Written.{json_of_texts}
use Rattle.mock_request.specs.Values.{values_of}
use Rattle.request_data.specs.Grouped.{names_in}
use Rattle.serde_json.specs.Data.{Data, object, Members, no_members, put}

-- the members, with each of the names and all its values in the pairs
abbrev pub with_values : List (List ℕ) → List (List ℕ × List ℕ) → Members → Members
with_values [] pairs ms = ms
with_values (name ∷ names) pairs ms =
    with_values names pairs (put name (json_of_texts (values_of name pairs)) ms)

-- each name, in byte order, with the list of its values
abbrev pub json_of_pairs : List (List ℕ × List ℕ) → Data
json_of_pairs pairs = object (with_values (names_in pairs) pairs no_members)
