-- Which body matcher an object spells (WireMock, "Request Matching"): a value matcher on the body's text, or one of
-- bytes or of JSON.
use Rattle.std.specs.Prelude.{ℕ, List, [], ◌∷◌, ◌++◌, Bool, false, Option, Some, None, option_map, unwrap_or, codes}
use Rattle.json_match.specs.declared.json_spec.JsonSpec.TheVariants as json
use Rattle.json_reading.specs.Fields.{only, optional, text_field, bool_field, bytes_of}
use Rattle.json_reading.specs.Numbers.{json_text_of}
use Rattle.json_reading.specs.Reading.{both, read_map, read_then, either, needed}
use Rattle.json_reading.specs.declared.kind.Kind.TheVariants.{Misshapen}
use Rattle.json_reading.specs.declared.reading.Reading.{Reading}
use Rattle.json_reading.specs.declared.reading.Reading.TheVariants.{Read, Wrong}
use Rattle.mapping_model.specs.declared.body_pattern.BodyPattern.{BodyPattern}
use Rattle.mapping_model.specs.declared.body_pattern.BodyPattern.TheVariants.{Value, BinaryEqualTo, Json, JsonPath}
use Rattle.request_json.specs.ValueReading.{value_words, value_in}
use Rattle.serde_json.specs.Data.{Data, string}
use Rattle.serde_json.specs.Find.{get}

abbrev pub body_words : List (List ℕ)
body_words =
    value_words ++ codes "binaryEqualTo" ∷ codes "equalToJson" ∷ codes "ignoreArrayOrder"
    ∷ codes "ignoreExtraElements" ∷ codes "matchesJsonPath" ∷ []

-- the expected value is given as its text, which is judged later, or as itself
abbrev pub expected_of : Data → Reading (List ℕ)
expected_of (string s) = Read s
expected_of d = json_text_of d

-- the two flags are words of `equalToJson` alone
abbrev pub equal_json_with : Option (List ℕ) → Option Bool → Option Bool → Reading (Option BodyPattern)
equal_json_with None None None = Read None
equal_json_with None any_order more = Wrong Misshapen
equal_json_with (Some s) any_order more =
    Read (Some (Json (json.EqualTo s (unwrap_or any_order false) (unwrap_or more false))))

abbrev pub equal_json_in : Data → Reading (Option BodyPattern)
equal_json_in d =
    read_then (λ p. equal_json_with p.0 p.1.0 p.1.1)
    (both (optional expected_of (get (codes "equalToJson") d))
    (both (bool_field (codes "ignoreArrayOrder") d) (bool_field (codes "ignoreExtraElements") d)))

-- a path is given alone, or with a value matcher on what it finds
abbrev pub path_object_of : Data → Reading BodyPattern
path_object_of d =
    only (codes "expression" ∷ value_words) d
    (read_map (λ p. JsonPath p.0 p.1) (both (needed (text_field (codes "expression") d)) (needed (value_in d))))

abbrev pub path_of : Data → Reading BodyPattern
path_of (string s) = Read (Json (json.Path s))
path_of d = path_object_of d

-- the one matcher that the words of an object spell, if they spell one
abbrev pub body_in : Data → Reading (Option BodyPattern)
body_in d =
    either Misshapen (read_map (option_map Value) (value_in d))
    (either Misshapen (read_map (option_map BinaryEqualTo) (optional bytes_of (get (codes "binaryEqualTo") d)))
    (either Misshapen (equal_json_in d) (optional path_of (get (codes "matchesJsonPath") d))))

abbrev pub reading_of_body : Data → Reading BodyPattern
reading_of_body d = only body_words d (needed (body_in d))
