-- The mapping that a JSON value spells (WireMock's documentation, "Stubbing"), its patterns, paths and templates not
-- yet judged. Other fields than these are ignored.
use Rattle.std.specs.Prelude.{ℕ, ℤ, pos, negsuc, List, [], Bool, true, false, ◌&&◌, int_le, Option, Some, None}
use Rattle.std.specs.Prelude.{option_map, option_and_then, is_some, codes, if◌then◌else◌}
use Rattle.std.specs.Option.{option_or}
use Rattle.json_reading.specs.Fields.{optional, text_of}
use Rattle.json_reading.specs.Numbers.{is_taken, taken}
use Rattle.json_reading.specs.Reading.{both, read_map, there, wrong_also}
use Rattle.json_reading.specs.declared.kind.Kind.{Kind}
use Rattle.json_reading.specs.declared.kind.Kind.TheVariants.{NumberNotWhole, Unsupported, Misshapen}
use Rattle.json_reading.specs.declared.reading.Reading.{Reading}
use Rattle.json_reading.specs.declared.reading.Reading.TheVariants.{Read, Wrong}
use Rattle.mapping_json.specs.declared.draft.MappingDraft.{MappingDraft}
use Rattle.mapping_model.specs.declared.request_spec.RequestSpec.{RequestSpec}
use Rattle.mapping_model.specs.declared.scenario_spec.ScenarioSpec.{ScenarioSpec}
use Rattle.mapping_model.specs.declared.url_spec.UrlSpec.TheVariants as url
use Rattle.request_json.specs.RequestReading.{reading_of_request}
use Rattle.response_json.specs.Draft.{no_response}
use Rattle.response_json.specs.Reading.{field_or, reading_of_response}
use Rattle.response_json.specs.declared.draft.ResponseDraft.{ResponseDraft}
use Rattle.serde_json.specs.Data.{Data, Items, no_items, item}
use Rattle.serde_json.specs.Find.{as_array, as_i64, as_number, as_object, as_str, get}
use Rattle.uuid.specs.Text.{parsed}

-- `id`, or else `uuid`: a UUID in any of the forms of its text
abbrev pub uuid_in : Option (List ℕ) → Reading (List ℕ)
uuid_in None = Wrong Misshapen
uuid_in (Some text) = there (parsed text)

abbrev pub uuid_of : Data → Reading (List ℕ)
uuid_of d = uuid_in (as_str d)

abbrev pub id_of : Data → Reading (List ℕ)
id_of d = taken d (uuid_of d)

abbrev pub id_field : Data → Option Data
id_field d = option_or (get (codes "id") d) (get (codes "uuid") d)

abbrev pub id_in : Data → Reading (Option (List ℕ))
id_in d = optional id_of (id_field d)

-- a text
abbrev pub taken_text : Data → Reading (List ℕ)
taken_text d = taken d (text_of d)

abbrev pub text_in : List ℕ → Data → Reading (Option (List ℕ))
text_in name d = optional taken_text (get name d)

-- a whole number of 32 bits with a sign
abbrev pub fits_i32 : ℤ → Bool
fits_i32 n = int_le (negsuc 2147483647) n && int_le n (pos 2147483647)

abbrev pub priority_number : Option ℤ → Reading ℤ
priority_number None = Wrong Misshapen
priority_number (Some n) = if fits_i32 n then Read n else Wrong Misshapen

abbrev pub priority_of : Data → Reading ℤ
priority_of d = taken d (priority_number (option_and_then as_i64 (as_number d)))

abbrev pub priority_in : Data → Reading (Option ℤ)
priority_in d = optional priority_of (get (codes "priority") d)

-- states without a scenario are ignored
abbrev pub scenario_of : Option (List ℕ) × (Option (List ℕ) × Option (List ℕ)) → Option ScenarioSpec
scenario_of p = option_map (λ name. record { name = name; required = p.1.0; next = p.1.1 }) p.0

abbrev pub scenario_in : Data → Reading (Option ScenarioSpec)
scenario_in d =
    read_map scenario_of (both (text_in (codes "scenarioName") d)
    (both (text_in (codes "requiredScenarioState") d) (text_in (codes "newScenarioState") d)))

-- an absent request matches each request
abbrev pub any_request : RequestSpec
any_request = record { method = None; url = url.Any; headers = []; query = []; cookies = []; body = [] }

abbrev pub taken_request : Data → Reading RequestSpec
taken_request d = taken d (reading_of_request d)

abbrev pub request_in : Data → Reading RequestSpec
request_in d = field_or any_request taken_request (get (codes "request") d)

abbrev pub response_in : Data → Reading ResponseDraft
response_in d = field_or no_response reading_of_response (get (codes "response") d)

-- `postServeActions` and `serveEventListeners` may be there as empty lists
abbrev pub has_no_items : Items → Bool
has_no_items no_items = true
has_no_items (item d ds) = false

abbrev pub is_empty_in : Option Items → Bool
is_empty_in None = false
is_empty_in (Some ds) = has_no_items ds

abbrev pub is_empty_list : Data → Bool
is_empty_list d = is_empty_in (as_array d)

abbrev pub unsupported_kind : Data → Kind
unsupported_kind d = if is_taken d then Unsupported else NumberNotWhole

abbrev pub unless_empty : {A : Type 0} → Data → Reading A → Reading A
unless_empty d part = if is_empty_list d then part else wrong_also (unsupported_kind d) part

abbrev pub beside : {A : Type 0} → Option Data → Reading A → Reading A
beside None part = part
beside (Some d) part = unless_empty d part

-- ---- the whole

unfoldable pub names_in : Data → Reading (Option (List ℕ) × Option (List ℕ))
names_in d = both (id_in d) (text_in (codes "name") d)

unfoldable pub place_in : Data → Reading (Option ℤ × Option ScenarioSpec)
place_in d = both (priority_in d) (scenario_in d)

unfoldable pub parts_in : Data → Reading (RequestSpec × ResponseDraft)
parts_in d = both (request_in d) (response_in d)

abbrev pub draft_of
    : (Option (List ℕ) × Option (List ℕ))
    × ((Option ℤ × Option ScenarioSpec) × (RequestSpec × ResponseDraft))
    → MappingDraft
draft_of p = record {
  id = p.0.0;
  name = p.0.1;
  priority = p.1.0.0;
  scenario = p.1.0.1;
  request = p.1.1.0;
  response = p.1.1.1;
}

abbrev pub fields_of : Data → Reading MappingDraft
fields_of d = read_map draft_of (both (names_in d) (both (place_in d) (parts_in d)))

abbrev pub mapping_in : Data → Reading MappingDraft
mapping_in d =
    beside (get (codes "postServeActions") d) (beside (get (codes "serveEventListeners") d) (fields_of d))

-- a mapping is an object
unfoldable pub reading_of_mapping : Data → Reading MappingDraft
reading_of_mapping d = if is_some (as_object d) then mapping_in d else taken d (Wrong Misshapen)
