-- The names and values of a URL's query (`application/x-www-form-urlencoded`, URL Standard, section 5.1).
use Rattle.std.specs.Prelude.{ℕ, List, [], map, Option, None, Some}
use Rattle.std.specs.Str.Lossy.{utf8_lossy}
use Rattle.form_urlencoded.specs.Form.{parse}
use Rattle.mock_request.specs.Url.{query_of}

-- a decoded name and its decoded value, read as UTF-8, with U+FFFD for what is not
abbrev pub text_pair : List ℕ × List ℕ → List ℕ × List ℕ
text_pair pair = (utf8_lossy pair.0, utf8_lossy pair.1)

abbrev pub form_pairs : Option (List ℕ) → List (List ℕ × List ℕ)
form_pairs None = []
form_pairs (Some form) = map text_pair (parse form)

abbrev pub query_pairs : List ℕ → List (List ℕ × List ℕ)
query_pairs url = form_pairs (query_of url)
