-- What `mock check` prints for documents: a line for each of their mappings.
use Rattle.std.specs.Prelude.{◌≡◌, ◌⊎◌, ℕ, suc, List, [], ◌∷◌, ◌++◌, Bool, map, is_err}
use Rattle.std.specs.Prelude.{if◌then◌else◌, Option, None, Some, Result, Ok, Err, codes, decimal}
use Rattle.std.specs.List.{AllZip, list_any}
use Rattle.json_reading.specs.Document.{IsDocument}
use Rattle.mapping_json.specs.Documents.{IsOuterError, IsResultOf, mappings_in}
use Rattle.mapping_json.specs.Errors.{error_code_of}
use Rattle.mapping_json.specs.declared.error.MappingError.{MappingError}
use Rattle.mapping_json.specs.declared.error.MappingError.TheVariants.{OutOfMemory}
use Rattle.mapping_model.specs.declared.mapping_spec.MappingSpec.{MappingSpec}
use Rattle.mapping_model.specs.declared.response_spec.Content.{Content}
use Rattle.mapping_model.specs.declared.response_spec.Content.TheVariants.{Plain, Templated}
use Rattle.command_output.specs.Ends.{Ends, EndsOnFiles}
use Rattle.command_output.specs.Lines.{numbers_text}
use Rattle.command_output.specs.declared.error.CommandError.{CommandError}
use Rattle.error_code.specs.Codes.{number_of}
use Rattle.error_code.specs.declared.error_code.ErrorCode.{ErrorCode}
use Rattle.response_json.specs.Draft.{values_of, body_templates}
use Rattle.serde_json.specs.Data.{Data}
use Rattle.code_rules.specs.Polynomial.{Polynomial, plus, as_printed}
use Rattle.code_rules.specs.Regions.{budget}
use Rattle.template_machine.specs.Program.{ProgramParts, IsProgram}
use Rattle.template_tree.specs.Source.{Source}
use Rattle.template_tree.specs.declared.escape.Escape.{Escape}

-- ---- lines

-- a mapping without templates, as `1 plain`
abbrev pub plain_line : ℕ → List ℕ
plain_line number = decimal number ++ codes " plain\n"

-- a mapping with the budgets of its templates, as `2 steps [5] bytes [6,1]`
abbrev pub budget_line : ℕ → List ℕ → List ℕ → List ℕ
budget_line number steps bytes =
    decimal number ++ (codes " steps " ++ (numbers_text steps
    ++ (codes " bytes " ++ (numbers_text bytes ++ codes "\n"))))

-- a mapping that is refused, as `3 error 11`
abbrev pub refused_line : ℕ → ErrorCode → List ℕ
refused_line number code = decimal number ++ (codes " error " ++ (decimal (number_of code) ++ codes "\n"))

abbrev pub sum_of : List Polynomial → Polynomial
sum_of [] = []
sum_of (ps ∷ rest) = plus ps (sum_of rest)

-- the budgets of several programs, added up; of none they are zero
abbrev pub total_steps : List ProgramParts → List ℕ
total_steps programs = as_printed (sum_of (map (λ p. (budget p.code).steps) programs))

abbrev pub total_bytes : List ProgramParts → List ℕ
total_bytes programs = as_printed (sum_of (map (λ p. (budget p.code).bytes) programs))

-- the program of a template
abbrev pub IsProgramOf : Source → ProgramParts → Type 0
IsProgramOf template p = (p.source ≡ template) × IsProgram p

-- the line of a mapping with these templates
abbrev pub IsBudgetLine : ℕ → List Source → List ℕ → Type 0
IsBudgetLine number templates line =
    (programs : List ProgramParts) × AllZip IsProgramOf templates programs
    × (line ≡ budget_line number (total_steps programs) (total_bytes programs))

abbrev pub IsContentLine : ℕ → Content → List ℕ → Type 0
IsContentLine number (Plain headers body) line = line ≡ plain_line number
IsContentLine number (Templated headers body) line =
    IsBudgetLine number (values_of headers ++ body_templates body) line

-- what is read of a mapping: its line
abbrev pub IsMappingLine : ℕ → Result MappingSpec MappingError → List ℕ → Type 0
IsMappingLine number (Ok mapping) line = IsContentLine number mapping.response.content line
IsMappingLine number (Err error) line = line ≡ refused_line number (error_code_of error)

-- the lines of what is read, numbered from there on
abbrev pub AreLines : ℕ → List (Result MappingSpec MappingError) → List ℕ → Type 0
AreLines number [] text = text ≡ []
AreLines number (result ∷ results) text =
    (line : List ℕ) × (rest : List ℕ) × IsMappingLine number result line × AreLines (suc number) results rest
    × (text ≡ line ++ rest)

-- ---- the whole

-- the values of the documents that are to be mappings, those of one document after those of the one before
abbrev pub HasValues : List (List ℕ) → List Data → Type 0
HasValues [] values = values ≡ []
HasValues (bytes ∷ documents) values =
    (d : Data) × (own : List Data) × (rest : List Data) × IsDocument bytes d × (mappings_in d ≡ Some own)
    × HasValues documents rest × (values ≡ own ++ rest)

-- the lines of the documents' mappings, whose templates' prints are escaped so, numbered from 1, and whether one of
-- them is refused
abbrev pub IsReportOf : Escape → List (List ℕ) → List ℕ → Bool → Type 0
IsReportOf escape documents text refused =
    (values : List Data) × (results : List (Result MappingSpec MappingError)) × HasValues documents values
    × AllZip (IsResultOf escape) values results × AreLines 1 results text × (refused ≡ list_any is_err results)

-- the first document that has no mappings, and why
pub record IsFirstWithoutMappings (documents : List (List ℕ)) (error : MappingError) : Type 0 where
  pub before : List (List ℕ)
  pub bytes : List ℕ
  pub after : List (List ℕ)
  pub values : List Data
  pub whole : documents ≡ before ++ bytes ∷ after
  pub read : HasValues before values
  pub is : IsOuterError bytes error

abbrev pub IsDocumentsRefusal : List (List ℕ) → MappingError → Type 0
IsDocumentsRefusal documents error = IsFirstWithoutMappings documents error ⊎ (error ≡ OutOfMemory)

-- a document has no mappings, or memory is out
abbrev pub IsCheckError : List (List ℕ) → CommandError → Type 0
IsCheckError documents error =
    (e : MappingError) × IsDocumentsRefusal documents e × (error ≡ record { code = error_code_of e; at = None })

-- How a check ends: the report is on standard output (0, or 1 where a mapping is refused), or an error on standard
-- error.
abbrev pub Checks : {O E : Type 0} → (O → Option (List ℕ)) → (E → Option (List ℕ)) → Escape
    → List (List ℕ) → O → O → E → E → ℕ → Type 0
Checks out_holds err_holds escape documents =
    Ends out_holds err_holds (λ text status. (refused : Bool) × IsReportOf escape documents text refused
    × (status ≡ (if refused then 1 else 0))) (IsCheckError documents)

-- how `mock check` ends
abbrev pub ChecksFiles : {O E : Type 0} → (O → Option (List ℕ)) → (E → Option (List ℕ)) → Escape
    → Option (List (List ℕ)) → (List ℕ → Option (List ℕ)) → List ℕ
    → O → O → E → E → ℕ → Type 0
ChecksFiles out_holds err_holds escape listed known path =
    EndsOnFiles out_holds err_holds listed known path (λ documents. Checks out_holds err_holds escape documents)
