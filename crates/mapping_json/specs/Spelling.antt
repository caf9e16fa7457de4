-- Which mapping a JSON value spells, and which error is reported where it spells none.
use Rattle.std.specs.Prelude.{◌≡◌, ◌⊎◌, ℕ, List, All}
use Rattle.json_reading.specs.Document.{IsDocument}
use Rattle.json_reading.specs.declared.kind.Kind.TheVariants.{NotJson}
use Rattle.json_reading.specs.declared.reading.Reading.TheVariants.{Read, Wrong}
use Rattle.mapping_json.specs.Reading.{reading_of_mapping}
use Rattle.mapping_json.specs.declared.draft.MappingDraft.{MappingDraft}
use Rattle.mapping_json.specs.declared.error.MappingError.{MappingError}
use Rattle.mapping_json.specs.declared.error.MappingError.TheVariants.{Document, Request, Template, OutOfMemory}
use Rattle.mapping_model.specs.declared.mapping_spec.MappingSpec.{MappingSpec}
use Rattle.mapping_model.specs.declared.response_spec.ResponseSpec.{ResponseSpec}
use Rattle.request_match.specs.Refusal.{CanBeBuilt, IsRefusal}
use Rattle.request_match.specs.declared.error.RequestMatchError.TheVariants as matcher
use Rattle.response_json.specs.Draft.{response_of, templates_of, IsFirstError}
use Rattle.serde_json.specs.Data.{Data}
use Rattle.template_machine.specs.Program.{IsProgramText}
use Rattle.template_machine.specs.declared.error.ProgramError.TheVariants as template
use Rattle.template_tree.specs.declared.escape.Escape.{Escape}

-- the mapping, where the prints of its templates are escaped so; templates are seen as their sources
abbrev pub mapping_of : Escape → MappingDraft → MappingSpec
mapping_of escape draft = record {
  id = draft.id;
  name = draft.name;
  priority = draft.priority;
  scenario = draft.scenario;
  request = draft.request;
  response = response_of escape draft.response;
}

-- the matcher can be built, each template is one, and this is the mapping
pub record IsMappingOf (escape : Escape) (draft : MappingDraft) (mapping : MappingSpec) : Type 0 where
  pub built : CanBeBuilt draft.request
  pub templates : All IsProgramText (templates_of escape draft.response)
  pub same : mapping ≡ mapping_of escape draft

-- this is the response of the mapping
abbrev pub IsResponseOf : Escape → MappingDraft → ResponseSpec → Type 0
IsResponseOf escape draft response =
    (mapping : MappingSpec) × IsMappingOf escape draft mapping × (mapping.response ≡ response)

-- why it is no mapping: its matcher can't be built, or else a template is none. Out of memory is an error of its own,
-- and never one of a part
abbrev pub IsDraftError : Escape → MappingDraft → MappingError → Type 0
IsDraftError escape draft (Document kind) = ⊥
IsDraftError escape draft (Request matcher.OutOfMemory) = ⊥
IsDraftError escape draft (Request error) = IsRefusal draft.request error
IsDraftError escape draft (Template template.OutOfMemory) = ⊥
IsDraftError escape draft (Template error) =
    CanBeBuilt draft.request × IsFirstError (templates_of escape draft.response) error
IsDraftError escape draft OutOfMemory = Unit {0}

-- the value spells the mapping
abbrev pub SpellsMapping : Escape → Data → MappingSpec → Type 0
SpellsMapping escape d mapping =
    (draft : MappingDraft) × (reading_of_mapping d ≡ Read draft) × IsMappingOf escape draft mapping

-- the value spells a mapping with this response
abbrev pub SpellsResponse : Escape → Data → ResponseSpec → Type 0
SpellsResponse escape d response =
    (mapping : MappingSpec) × SpellsMapping escape d mapping × (mapping.response ≡ response)

-- the way in which it is wrong
abbrev pub IsWrong : Data → MappingError → Type 0
IsWrong d (Document kind) = reading_of_mapping d ≡ Wrong kind
IsWrong d (Request error) = ⊥
IsWrong d (Template error) = ⊥
IsWrong d OutOfMemory = Unit {0}

-- the error that is reported of a value that spells none: the way in which it is wrong, or what is wrong with the
-- mapping that is read; memory may run out at any moment
abbrev pub IsValueError : Escape → Data → MappingError → Type 0
IsValueError escape d error =
    ((draft : MappingDraft) × (reading_of_mapping d ≡ Read draft) × IsDraftError escape draft error)
    ⊎ IsWrong d error

-- the bytes are no document
abbrev pub IsNoDocument : List ℕ → Type 0
IsNoDocument bytes = (d : Data) → ¬ (IsDocument bytes d)

-- the same of a document
abbrev pub SpellsDocument : Escape → List ℕ → MappingSpec → Type 0
SpellsDocument escape bytes mapping = (d : Data) × IsDocument bytes d × SpellsMapping escape d mapping

abbrev pub IsDocumentError : Escape → List ℕ → MappingError → Type 0
IsDocumentError escape bytes error =
    ((error ≡ Document NotJson) × IsNoDocument bytes)
    ⊎ ((d : Data) × IsDocument bytes d × IsValueError escape d error)
    ⊎ (error ≡ OutOfMemory)
