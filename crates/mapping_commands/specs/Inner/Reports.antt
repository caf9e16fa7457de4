-- For private clauses: the lines of a document's values while they are written.
use Rattle.std.specs.Prelude.{◌≡◌, ℕ, List, ◌++◌, Bool, is_err, length, Result, Some, string_bytes}
use Rattle.std.specs.List.{AllZip, list_any}
use Rattle.json_reading.specs.Document.{IsDocument}
use Rattle.mapping_commands.specs.Checking.{AreLines, IsMappingLine}
use Rattle.mapping_commands.specs.declared.check.Checked.{Checked}
use Rattle.mapping_json.specs.Documents.{IsResultOf, mappings_in}
use Rattle.mapping_json.specs.declared.error.MappingError.{MappingError}
use Rattle.mapping_model.specs.declared.mapping_spec.MappingSpec.{MappingSpec}
use Rattle.serde_json.specs.Data.{Data}
use Rattle.template_tree.specs.declared.escape.Escape.{Escape}

-- the text has the lines of the values, numbered from 1, and says whether one of them is refused
pub record AreReported (escape : Escape) (values : List Data) (text : List ℕ) (refused : Bool) : Type 0 where
  pub results : List (Result MappingSpec MappingError)
  pub read : AllZip (IsResultOf escape) values results
  pub lines : AreLines 1 results text
  pub is_refused : refused ≡ list_any is_err results

-- the new text has the line of one value more
pub record Reports (escape : Escape) (number : ℕ) (d : Data) (old new : List ℕ) (refused : Bool) : Type 0 where
  pub result : Result MappingSpec MappingError
  pub line : List ℕ
  pub read : IsResultOf escape d result
  pub is_line : IsMappingLine number result line
  pub text : new ≡ old ++ line
  pub is_refused : refused ≡ is_err result

-- what is reported of some values
pub record IsChecked (escape : Escape) (values : List Data) (c : Checked) : Type 0 where
  pub lines : AreReported escape values (string_bytes c.text) c.is_refused
  pub counted : c.count ≡ length values

-- what was reported of some values is reported of these more
abbrev pub Adds : Escape → List Data → Checked → Checked → Type 0
Adds escape more old new =
    (values : List Data) → IsChecked escape values old → IsChecked escape (values ++ more) new

-- the same of those of a document
pub record AddsDocument (escape : Escape) (bytes : List ℕ) (old new : Checked) : Type 0 where
  pub d : Data
  pub own : List Data
  pub document : IsDocument bytes d
  pub listed : mappings_in d ≡ Some own
  pub adds : Adds escape own old new
