-- For private clauses: in which way an object is wrong, found without the mapping that it spells.
use Rattle.std.specs.Prelude.{Option, Some, None, codes, is_some, if◌then◌else◌}
use Rattle.json_reading.specs.Numbers.{is_taken}
use Rattle.json_reading.specs.Reading.{first}
use Rattle.json_reading.specs.declared.kind.Kind.{Kind}
use Rattle.json_reading.specs.declared.kind.Kind.TheVariants.{NumberNotWhole, Misshapen}
use Rattle.json_reading.specs.declared.reading.Reading.{Reading}
use Rattle.json_reading.specs.declared.reading.Reading.TheVariants.{Read, Wrong}
use Rattle.mapping_json.specs.Reading.{id_field, id_of, is_empty_list, priority_of, unsupported_kind}
use Rattle.mapping_json.specs.declared.draft.MappingDraft.{MappingDraft}
use Rattle.mapping_model.specs.declared.request_spec.RequestSpec.{RequestSpec}
use Rattle.response_json.specs.declared.draft.ResponseDraft.{ResponseDraft}
use Rattle.serde_json.specs.Data.{Data}
use Rattle.serde_json.specs.Find.{as_str, get}

-- the way in which a part is wrong
abbrev pub wrong_of : {A : Type 0} → Reading A → Option Kind
wrong_of (Read a) = None
wrong_of (Wrong k) = Some k

-- that of two parts
abbrev pub joined : Option Kind → Option Kind → Option Kind
joined None k = k
joined (Some j) None = Some j
joined (Some j) (Some k) = Some (first j k)

-- that of a field that may only be an empty list
abbrev pub wrong_list : Option Data → Option Kind
wrong_list None = None
wrong_list (Some d) = if is_empty_list d then None else Some (unsupported_kind d)

-- that of a value that is no object
abbrev pub misshapen_kind : Data → Kind
misshapen_kind d = if is_taken d then Misshapen else NumberNotWhole

-- that of a field that is read so, and of one that may only be a text
abbrev pub wrong_field : {A : Type 0} → (Data → Reading A) → Option Data → Option Kind
wrong_field reading None = None
wrong_field reading (Some d) = wrong_of (reading d)

abbrev pub wrong_text : Option Data → Option Kind
wrong_text None = None
wrong_text (Some d) = if is_some (as_str d) then None else Some (misshapen_kind d)

-- that of the fields of an object that are neither its request nor its response
abbrev pub wrong_scenario : Data → Option Kind
wrong_scenario d =
    joined (wrong_text (get (codes "scenarioName") d))
    (joined (wrong_text (get (codes "requiredScenarioState") d)) (wrong_text (get (codes "newScenarioState") d)))

unfoldable pub wrong_fields : Data → Option Kind
wrong_fields d =
    joined (joined (wrong_list (get (codes "postServeActions") d)) (wrong_list (get (codes "serveEventListeners") d)))
    (joined (joined (wrong_field id_of (id_field d)) (wrong_text (get (codes "name") d)))
    (joined (wrong_field priority_of (get (codes "priority") d)) (wrong_scenario d)))

-- a mapping of which no more is known
abbrev pub alone : RequestSpec → ResponseDraft → MappingDraft
alone request response = record {
  id = None;
  name = None;
  priority = None;
  scenario = None;
  request = request;
  response = response;
}
