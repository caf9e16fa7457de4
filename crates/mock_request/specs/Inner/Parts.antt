-- How a list of byte strings is the headers of a request: the name and the value of each.
use Rattle.std.specs.Prelude.{◌≡◌, ℕ, ◌≤◌, List, [], ◌∷◌, length, All}
use Rattle.std.specs.Str.{IsUtf8}
use Rattle.http_header.specs.FieldName.{IsHeaderName}
use Rattle.mock_request.specs.Inner.Bare.{Bare}
use Rattle.mock_request.specs.Request.{Request, Header}
use Rattle.mock_request.specs.Target.{IsRooted}
use Rattle.mock_request.specs.declared.snapshot.TheConstants.{BODY_LIMIT}

abbrev pub fields_of : List Header → List (List ℕ)
fields_of [] = []
fields_of (header ∷ headers) = header.name ∷ header.value ∷ fields_of headers

-- the headers of these names and values
abbrev pub headers_in : List (List ℕ) → List Header
headers_in [] = []
headers_in (name ∷ []) = []
headers_in (name ∷ value ∷ fields) = record { name = name; value = value } ∷ headers_in fields

-- what holds of the byte strings that headers are kept in
pub record AreFields (fields : List (List ℕ)) : Type 0 where
  pub whole : fields ≡ fields_of (headers_in fields)
  pub names : All (λ header. IsHeaderName header.name) (headers_in fields)

-- the request of these parts
abbrev pub request_of : Bare → List Header → Request
request_of bare headers =
    record { method = bare.method; url = bare.url; headers = headers; body = bare.body }

-- what holds of each `Snapshot`
pub record IsSnapshot (bare : Bare) : Type 0 where
  pub method : IsUtf8 bare.method
  pub url : IsUtf8 bare.url
  pub rooted : IsRooted bare.url
  pub within : length bare.body ≤ BODY_LIMIT
