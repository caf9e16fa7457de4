-- By what requests are grouped.
use Rattle.std.specs.Prelude.{ℕ, Bool, ◌&&◌, List, map}
use Rattle.std.specs.Borrow.{Bor}
use Rattle.std.specs.Cmp.Lexicographic.{pointwise}
use Rattle.std.specs.List.{filter, flat_map}
use Rattle.std.specs.Str.{bytes_eq, str_eq_ignore_ascii_case}
use Rattle.mock_request.specs.Request.{Header, Request}

-- the headers of a name, which has no case (RFC 9110, 5.1), in their order
abbrev pub headers_named : List ℕ → List Header → List Header
headers_named name headers = filter (λ header. str_eq_ignore_ascii_case name header.name) headers

-- for each captured name the headers of that name
abbrev pub captured_headers : List (List ℕ) → List Header → List Header
captured_headers captured headers = flat_map (λ name. headers_named name headers) captured

-- names and values that are lent
abbrev pub fields_of : List (Bor (List ℕ) × Bor (List ℕ)) → List Header
fields_of fields = map (λ field. record { name = field.0.now; value = field.1.now }) fields

-- method, URL, captured headers, body
pub record KeyParts : Type 0 where
  pub method : List ℕ
  pub url : List ℕ
  pub headers : List Header
  pub body : List ℕ

abbrev pub key_of : Request → List (List ℕ) → KeyParts
key_of request captured = record {
  method = request.method;
  url = request.url;
  headers = captured_headers captured request.headers;
  body = request.body;
}

-- ---- equal keys: byte by byte

abbrev pub same_header : Header → Header → Bool
same_header a b = bytes_eq a.name b.name && bytes_eq a.value b.value

abbrev pub same_key : KeyParts → KeyParts → Bool
same_key a b =
    bytes_eq a.method b.method && bytes_eq a.url b.url && pointwise same_header a.headers b.headers
    && bytes_eq a.body b.body
