-- Documents of several mappings: an object with a list `mappings`, whose other fields are ignored; any other object is
-- one mapping.
use Rattle.std.specs.Prelude.{◌≡◌, ◌≢◌, ◌⊎◌, ℕ, List, [], ◌∷◌, ◌++◌, length, Option, Some}
use Rattle.std.specs.Prelude.{None, Result, MatchResult, codes, is_some, option_map, if◌then◌else◌}
use Rattle.std.specs.List.{AllZip}
use Rattle.json_reading.specs.Document.{IsDocument}
use Rattle.json_reading.specs.declared.kind.Kind.TheVariants.{NotJson, Misshapen}
use Rattle.mapping_json.specs.Spelling.{SpellsMapping, IsValueError, IsNoDocument}
use Rattle.mapping_json.specs.declared.error.MappingError.{MappingError}
use Rattle.mapping_json.specs.declared.error.MappingError.TheVariants.{Document, OutOfMemory}
use Rattle.mapping_json.specs.declared.error.MappingsError.{MappingsError}
use Rattle.mapping_model.specs.declared.mapping_spec.MappingSpec.{MappingSpec}
use Rattle.serde_json.specs.Data.{Data, Items, no_items, item}
use Rattle.serde_json.specs.Find.{as_array, as_object, get}
use Rattle.template_tree.specs.declared.escape.Escape.{Escape}

abbrev pub list_of : Items → List Data
list_of no_items = []
list_of (item d ds) = d ∷ list_of ds

abbrev pub listed : Data → Option Data → Option (List Data)
listed whole None = Some (whole ∷ [])
listed whole (Some d) = option_map list_of (as_array d)

-- the values that are to be mappings
unfoldable pub mappings_in : Data → Option (List Data)
mappings_in d = if is_some (as_object d) then listed d (get (codes "mappings") d) else None

-- the error of one of them; memory doesn't run out for one of them alone
abbrev pub IsOwnError : Escape → Data → MappingError → Type 0
IsOwnError escape d error = IsValueError escape d error × (error ≢ OutOfMemory)

-- what is read of one of them: its mapping, or its error
abbrev pub IsResultOf : Escape → Data → Result MappingSpec MappingError → Type 0
IsResultOf escape d result = MatchResult result (SpellsMapping escape d) (IsOwnError escape d)

-- the results of the values in the document
abbrev pub AreResults : Escape → List ℕ → List (Result MappingSpec MappingError) → Type 0
AreResults escape bytes results =
    (d : Data) × (values : List Data) × IsDocument bytes d × (mappings_in d ≡ Some values)
    × AllZip (IsResultOf escape) values results

-- the document is no list of mappings
abbrev pub IsOuterError : List ℕ → MappingError → Type 0
IsOuterError bytes error =
    ((error ≡ Document NotJson) × IsNoDocument bytes)
    ⊎ ((error ≡ Document Misshapen) × ((d : Data) × IsDocument bytes d × (mappings_in d ≡ None)))
    ⊎ (error ≡ OutOfMemory)

-- each value in the document spells its mapping
abbrev pub SpellMappings : Escape → List ℕ → List MappingSpec → Type 0
SpellMappings escape bytes mappings =
    (d : Data) × (values : List Data) × IsDocument bytes d × (mappings_in d ≡ Some values)
    × AllZip (SpellsMapping escape) values mappings

-- the values before the one at the index are mappings, and that one has the error
pub record IsFirstRefused (escape : Escape) (bytes : List ℕ) (index : ℕ) (error : MappingError) : Type 0 where
  pub d : Data
  pub before : List Data
  pub value : Data
  pub after : List Data
  pub mappings : List MappingSpec
  pub document : IsDocument bytes d
  pub values : mappings_in d ≡ Some (before ++ value ∷ after)
  pub read : AllZip (SpellsMapping escape) before mappings
  pub at : index ≡ length before
  pub refused : IsOwnError escape value error

abbrev pub IsErrorAt : Escape → List ℕ → Option ℕ → MappingError → Type 0
IsErrorAt escape bytes None error = IsOuterError bytes error
IsErrorAt escape bytes (Some index) error = IsFirstRefused escape bytes index error

-- with an index the first value that is no mapping, and without one the document itself
abbrev pub IsMappingsError : Escape → List ℕ → MappingsError → Type 0
IsMappingsError escape bytes e = IsErrorAt escape bytes e.index e.error
