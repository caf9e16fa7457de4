-- What a body asks to record (WireMock's documentation, "Record and Playback"): the upstream, the headers that recorded
-- mappings match, and whether equal requests become a scenario. `persist` is ignored.
use Rattle.std.specs.Prelude.{ℕ, List, [], ◌∷◌, Bool, true, map, unwrap_or, codes}
use Rattle.std.specs.Char.{to_ascii_lowercase}
use Rattle.admin_json.specs.Names.{in_order}
use Rattle.admin_json.specs.declared.start.RecordingStart.{RecordingStart}
use Rattle.json_reading.specs.Fields.{only, optional, text_field, bool_field, members_of}
use Rattle.json_reading.specs.Reading.{both, read_map, needed}
use Rattle.json_reading.specs.declared.reading.Reading.{Reading}
use Rattle.json_reading.specs.declared.reading.Reading.TheVariants.{Read}
use Rattle.serde_json.specs.Data.{Data}
use Rattle.serde_json.specs.Find.{get}

abbrev pub start_fields : List (List ℕ)
start_fields =
    codes "targetBaseUrl" ∷ codes "captureHeaders" ∷ codes "repeatsAsScenarios" ∷ codes "persist" ∷ []

-- a captured header is its name, in lower case, at an empty object
abbrev pub name_at : List ℕ → Data → Reading (List ℕ)
name_at name d = only [] d (Read (map to_ascii_lowercase name))

-- the names in byte order, each once: names of headers are compared without case
abbrev pub captured_of : Data → Reading (List (List ℕ))
captured_of d = read_map in_order (members_of name_at d)

-- absent: no header
abbrev pub captured_in : Data → Reading (List (List ℕ))
captured_in d = read_map (λ o. unwrap_or o []) (optional captured_of (get (codes "captureHeaders") d))

-- absent: they do
abbrev pub repeats_in : Data → Reading Bool
repeats_in d = read_map (λ o. unwrap_or o true) (bool_field (codes "repeatsAsScenarios") d)

abbrev pub start_with : (List ℕ × (List (List ℕ) × Bool)) → RecordingStart
start_with p = record { target = p.0; captured = p.1.0; repeats = p.1.1 }

abbrev pub reading_of_start : Data → Reading RecordingStart
reading_of_start d =
    only start_fields d
    (read_map start_with (both (needed (text_field (codes "targetBaseUrl") d)) (both (captured_in d) (repeats_in d))))
