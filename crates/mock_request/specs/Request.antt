-- What a contract sees of a `Snapshot`.
use Rattle.std.specs.Prelude.{ℕ, List, map}
use Rattle.http_header.specs.FieldValue.{FieldValue}

-- The bytes of a header's name and value. Any name can be a `Header`'s here; those of a `Snapshot` are in lower case
-- (clause `lower_case` of `Snapshot::header`).
pub record Header : Type 0 where
  pub name : List ℕ
  pub value : List ℕ

-- all texts are their bytes
pub record Request : Type 0 where
  pub method : List ℕ
  pub url : List ℕ
  pub headers : List Header
  pub body : List ℕ

-- a name and a value of `http_header`
abbrev pub header_of : List ℕ × FieldValue → Header
header_of field = record { name = field.0; value = field.1.bytes }

abbrev pub headers_of : List (List ℕ × FieldValue) → List Header
headers_of fields = map header_of fields
