-- Which bytes are a document: JSON (RFC 8259) in UTF-8, as `serde_json` reads it.
use Rattle.std.specs.Prelude.{◌≡◌, ℕ, List, Some, IsUtf8}
use Rattle.serde_json.specs.Data.{Data}
use Rattle.serde_json.specs.Read.{read}

abbrev pub IsDocument : List ℕ → Data → Type 0
IsDocument bytes d = IsUtf8 bytes × (read bytes ≡ Some d)
