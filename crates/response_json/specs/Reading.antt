-- The response that a JSON value spells (WireMock's documentation, "Stubbing"). Absent fields are a status 200, no
-- headers, no body and no templates; `statusMessage` is ignored.
use Rattle.std.specs.Prelude.{ℕ, List, [], ◌∷◌, ◌++◌, length, Bool, true, false, ◌&&◌, ◌||◌, nat_lt}
use Rattle.std.specs.Prelude.{nat_le, Option, Some, None, unwrap_or, option_and_then, codes, if◌then◌else◌}
use Rattle.std.specs.List.{list_all}
use Rattle.std.specs.Str.{bytes_eq}
use Rattle.http_header.specs.Token.{is_token_byte}
use Rattle.json_reading.specs.Fields.{only, text_of, bytes_of, each_item, list_of}
use Rattle.json_reading.specs.Numbers.{is_taken, json_text_of}
use Rattle.json_reading.specs.Reading.{both, either, read_map, read_then, wrong_also}
use Rattle.json_reading.specs.declared.kind.Kind.TheVariants.{NumberNotWhole, Unsupported, Misshapen}
use Rattle.json_reading.specs.declared.reading.Reading.{Reading}
use Rattle.json_reading.specs.declared.reading.Reading.TheVariants.{Read, Wrong}
use Rattle.mapping_model.specs.Body.{text_body}
use Rattle.mapping_model.specs.declared.header_lines.HeaderLine.{HeaderLine}
use Rattle.mapping_model.specs.declared.header_lines.TheConstants.{HEADER_LIMIT}
use Rattle.mapping_model.specs.declared.response_spec.Body.{Body}
use Rattle.mapping_model.specs.declared.response_spec.Body.TheVariants as body
use Rattle.response_json.specs.declared.draft.ResponseDraft.{ResponseDraft}
use Rattle.serde_json.specs.Data.{Data, array, object, Members, no_members, member}
use Rattle.serde_json.specs.Find.{as_number, as_u64, get}

-- the reading of a field, or this where it is absent
abbrev pub field_or : {A : Type 0} → A → (Data → Reading A) → Option Data → Reading A
field_or absent reading None = Read absent
field_or absent reading (Some d) = reading d

-- ---- status: a whole number from 200 to 599

abbrev pub status_number : Option ℕ → Reading ℕ
status_number None = Wrong Misshapen
status_number (Some code) = if nat_le 200 code && nat_le code 599 then Read code else Wrong Misshapen

abbrev pub status_of : Data → Reading ℕ
status_of d = status_number (option_and_then as_u64 (as_number d))

abbrev pub status_in : Data → Reading ℕ
status_in d = field_or 200 status_of (get (codes "status") d)

-- ---- headers: an object of names (tokens, RFC 9110, section 5.6.2), each with a text or a list of texts

abbrev pub Line : Type 0
Line = HeaderLine (List ℕ)

-- a token, as a test
abbrev pub is_name : List ℕ → Bool
is_name [] = false
is_name (b ∷ bs) = list_all is_token_byte (b ∷ bs)

abbrev pub name_of : List ℕ → Option (List ℕ)
name_of name = if is_name name then Some name else None

abbrev pub line_of : List ℕ → Data → Reading Line
line_of name d = read_map (λ text. record { name = name; value = text }) (text_of d)

abbrev pub lines_of : List ℕ → Data → Reading (List Line)
lines_of name (array ds) = each_item (line_of name) ds
lines_of name d = read_map (λ line. line ∷ []) (line_of name d)

abbrev pub lines_under : Option (List ℕ) → Data → Reading (List Line)
lines_under None d = Wrong Misshapen
lines_under (Some name) d = lines_of name d

abbrev pub lines_at : List ℕ → Data → Reading (List Line)
lines_at name d = lines_under (name_of name) d

abbrev pub joined : Reading (List Line) → Reading (List Line) → Reading (List Line)
joined lines others = read_map (λ p. p.0 ++ p.1) (both lines others)

-- the lines of the members, in the order of their names
abbrev pub lines_in : Members → Reading (List Line)
lines_in no_members = Read []
lines_in (member name d ms) = joined (lines_at name d) (lines_in ms)

abbrev pub limited : List Line → Reading (List Line)
limited lines = if nat_le (length lines) HEADER_LIMIT then Read lines else Wrong Misshapen

abbrev pub within : Reading (List Line) → Reading (List Line)
within lines = read_then limited lines

abbrev pub headers_of : Data → Reading (List Line)
headers_of (object ms) = within (lines_in ms)
headers_of d = Wrong Misshapen

abbrev pub headers_in : Data → Reading (List Line)
headers_in d = field_or [] headers_of (get (codes "headers") d)

-- ---- body: one of `body`, `jsonBody` and `base64Body`

abbrev pub some_body : List ℕ → Option (Body (List ℕ))
some_body text = Some (text_body text)

abbrev pub some_json : List ℕ → Option (Body (List ℕ))
some_json text = Some (body.Json text)

abbrev pub some_base64 : List ℕ → Option (Body (List ℕ))
some_base64 bytes = Some (body.Base64 bytes)

abbrev pub text_in : Data → Reading (Option (Body (List ℕ)))
text_in d = field_or None (λ x. read_map some_body (text_of x)) (get (codes "body") d)

-- the compact text
abbrev pub json_in : Data → Reading (Option (Body (List ℕ)))
json_in d = field_or None (λ x. read_map some_json (json_text_of x)) (get (codes "jsonBody") d)

abbrev pub base64_in : Data → Reading (Option (Body (List ℕ)))
base64_in d = field_or None (λ x. read_map some_base64 (bytes_of x)) (get (codes "base64Body") d)

abbrev pub or_empty : Option (Body (List ℕ)) → Body (List ℕ)
or_empty found = unwrap_or found body.Empty

abbrev pub body_in : Data → Reading (Body (List ℕ))
body_in d = read_map or_empty (either Misshapen (text_in d) (either Misshapen (json_in d) (base64_in d)))

-- ---- transformers: `response-template` alone

abbrev pub known_transformer : List ℕ → Reading (List ℕ)
known_transformer text = if bytes_eq text (codes "response-template") then Read text else Wrong Unsupported

abbrev pub transformer_of : Data → Reading (List ℕ)
transformer_of d = read_then known_transformer (text_of d)

abbrev pub is_templated_by : Data → Reading Bool
is_templated_by d = read_map (λ found. nat_lt 0 (length found)) (list_of transformer_of d)

abbrev pub is_templated_in : Data → Reading Bool
is_templated_in d = field_or false is_templated_by (get (codes "transformers") d)

-- ---- the whole

-- each number is taken, but for those of the ignored field
abbrev pub fields_taken : Members → Bool
fields_taken no_members = true
fields_taken (member name d ms) = (bytes_eq name (codes "statusMessage") || is_taken d) && fields_taken ms

abbrev pub are_taken : Data → Bool
are_taken (object ms) = fields_taken ms
are_taken d = is_taken d

abbrev pub response_names : List (List ℕ)
response_names =
    codes "status" ∷ codes "statusMessage" ∷ codes "headers" ∷ codes "body" ∷ codes "jsonBody"
    ∷ codes "base64Body"
    ∷ codes "transformers" ∷ []

abbrev pub draft_of : (ℕ × List Line) × (Body (List ℕ) × Bool) → ResponseDraft
draft_of p = record { status = p.0.0; headers = p.0.1; body = p.1.0; is_templated = p.1.1 }

abbrev pub response_in : Data → Reading ResponseDraft
response_in d = read_map draft_of (both (both (status_in d) (headers_in d)) (both (body_in d) (is_templated_in d)))

abbrev pub spelled_response : Data → Reading ResponseDraft
spelled_response d = only response_names d (response_in d)

unfoldable pub reading_of_response : Data → Reading ResponseDraft
reading_of_response d = if are_taken d then spelled_response d else wrong_also NumberNotWhole (spelled_response d)
