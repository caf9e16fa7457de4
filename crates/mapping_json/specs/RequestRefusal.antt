-- Why no request matcher is read: first what is wrong with the document, then with the matcher that it spells.
use Rattle.std.specs.Prelude.{◌≡◌, ◌⊎◌, ℕ, List}
use Rattle.json_reading.specs.Document.{IsDocument}
use Rattle.json_reading.specs.Numbers.{taken}
use Rattle.json_reading.specs.declared.kind.Kind.TheVariants.{NotJson}
use Rattle.json_reading.specs.declared.reading.Reading.{Reading}
use Rattle.json_reading.specs.declared.reading.Reading.TheVariants.{Read, Wrong}
use Rattle.mapping_model.specs.declared.request_spec.RequestSpec.{RequestSpec}
use Rattle.request_json.specs.RequestReading.{reading_of_request}
use Rattle.mapping_json.specs.declared.request_error.RequestDocumentError.{RequestDocumentError}
use Rattle.mapping_json.specs.declared.request_error.RequestDocumentError.TheVariants.{Document, Matcher, OutOfMemory}
use Rattle.request_match.specs.Refusal.{IsRefusal}
use Rattle.request_match.specs.declared.error.RequestMatchError.TheVariants as refusal
use Rattle.serde_json.specs.Data.{Data}

-- the bytes are a document whose numbers are taken, with this reading
abbrev pub Spells : List ℕ → Reading RequestSpec → Type 0
Spells text reading = (d : Data) × IsDocument text d × (taken d (reading_of_request d) ≡ reading)

-- memory may run out at any moment, and that is no error of the matcher
abbrev pub IsRefused : List ℕ → RequestDocumentError → Type 0
IsRefused text (Document kind) =
    ((kind ≡ NotJson) × ((d : Data) → ¬ (IsDocument text d))) ⊎ Spells text (Wrong kind)
IsRefused text (Matcher refusal.OutOfMemory) = ⊥
IsRefused text (Matcher error) = (request : RequestSpec) × Spells text (Read request) × IsRefusal request error
IsRefused text OutOfMemory = Unit {0}
