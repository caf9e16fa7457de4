-- The headers of a request as names and texts.
use Rattle.std.specs.Prelude.{ℕ, List, map}
use Rattle.std.specs.Str.Lossy.{utf8_lossy}
use Rattle.mock_request.specs.Request.{Header}
use Rattle.mock_request.specs.Values.{values_of}

-- the name, and the value read as UTF-8, with U+FFFD for what is not
abbrev pub header_pair : Header → List ℕ × List ℕ
header_pair header = (header.name, utf8_lossy header.value)

abbrev pub header_pairs : List Header → List (List ℕ × List ℕ)
header_pairs headers = map header_pair headers

-- the texts of all headers of a name (in lower case, as `Request` says), in their order
abbrev pub texts_of : List ℕ → List Header → List (List ℕ)
texts_of name headers = values_of name (header_pairs headers)
