-- For private clauses: what is read of a list of values.
use Rattle.std.specs.Prelude.{◌≡◌, ◌⊎◌, List, ◌∷◌, ◌++◌, length, map, Some, None, Result, Ok, Err}
use Rattle.std.specs.List.{AllZip}
use Rattle.json_reading.specs.declared.kind.Kind.TheVariants.{Misshapen}
use Rattle.mapping_json.specs.Documents.{mappings_in, IsResultOf}
use Rattle.mapping_json.specs.declared.error.MappingError.{MappingError}
use Rattle.mapping_json.specs.declared.error.MappingError.TheVariants.{Document, OutOfMemory}
use Rattle.mapping_json.specs.declared.error.MappingsError.{MappingsError}
use Rattle.mapping_model.specs.declared.mapping_spec.MappingSpec.{MappingSpec}
use Rattle.serde_json.specs.Data.{Data}
use Rattle.template_tree.specs.declared.escape.Escape.{Escape}

-- the results of the values in an object
abbrev pub AreResultsOf : Escape → Data → List (Result MappingSpec MappingError) → Type 0
AreResultsOf escape d results =
    (values : List Data) × (mappings_in d ≡ Some values) × AllZip (IsResultOf escape) values results

-- the value is no list of mappings, or memory is out
abbrev pub IsListError : Data → MappingError → Type 0
IsListError d error = ((error ≡ Document Misshapen) × (mappings_in d ≡ None)) ⊎ (error ≡ OutOfMemory)

-- the first error of the results, with its index, or memory is out
pub record IsErrAt (results : List (Result MappingSpec MappingError)) (e : MappingsError) : Type 0 where
  pub before : List MappingSpec
  pub after : List (Result MappingSpec MappingError)
  pub split : results ≡ map Ok before ++ Err e.error ∷ after
  pub index : e.index ≡ Some (length before)

abbrev pub IsFirstErr : List (Result MappingSpec MappingError) → MappingsError → Type 0
IsFirstErr results e = IsErrAt results e ⊎ (e ≡ record { index = None; error = OutOfMemory })
