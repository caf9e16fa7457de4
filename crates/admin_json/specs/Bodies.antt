-- How the body of a call is read: bytes that are no document (JSON in UTF-8) are reported as such.
use Rattle.std.specs.Prelude.{◌≡◌, ◌⊎◌, ℕ, List}
use Rattle.admin_json.specs.declared.error.BodyError.{BodyError}
use Rattle.admin_json.specs.declared.error.BodyError.TheVariants.{Document, OutOfMemory}
use Rattle.json_reading.specs.Document.{IsDocument}
use Rattle.json_reading.specs.declared.kind.Kind.TheVariants.{NotJson}
use Rattle.json_reading.specs.declared.reading.Reading.{Reading}
use Rattle.json_reading.specs.declared.reading.Reading.TheVariants.{Wrong}
use Rattle.serde_json.specs.Data.{Data}

-- with this reading of documents, that is what the bytes are read as
abbrev pub IsReadAs : {A : Type 0} → (Data → Reading A) → List ℕ → Reading A → Type 0
IsReadAs reading bytes part =
    (((d : Data) → ¬ (IsDocument bytes d)) × (part ≡ Wrong NotJson))
    ⊎ ((d : Data) × IsDocument bytes d × (part ≡ reading d))

-- memory may run out before another reason is found
abbrev pub IsBodyError : {A : Type 0} → (Data → Reading A) → List ℕ → BodyError → Type 0
IsBodyError reading bytes (Document kind) = IsReadAs reading bytes (Wrong kind)
IsBodyError reading bytes OutOfMemory = Unit {0}
