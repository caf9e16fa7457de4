-- What is sent of a response.
use Rattle.std.specs.Prelude.{◌≡◌, ℕ, Bool, ◌==◌, ◌||◌, List, [], ◌∷◌, fold, reverse, IsFalse, IsTrue, if◌then◌else◌}
use Rattle.mock_request.specs.ConnectionNames.{is_connection_name}
use Rattle.http.specs.Response.{head_of, body_of}
use Rattle.http.specs.declared.response.Response.{Response}
use Rattle.http_header.specs.FieldValue.{FieldValue}
use Rattle.http_header.specs.HeaderMap.{Entries, append, pairs}
use Rattle.http_header.specs.Token.{space, tab}

abbrev pub is_blank : ℕ → Bool
is_blank b = (b == space) || (b == tab)

-- without the blanks at its ends, which are no part of a value (RFC 9110, section 5.5)
abbrev pub without_front_blanks : List ℕ → List ℕ
without_front_blanks [] = []
without_front_blanks (b ∷ bs) = if is_blank b then without_front_blanks bs else b ∷ bs

abbrev pub without_end_blanks : List ℕ → List ℕ
without_end_blanks bytes = reverse (without_front_blanks (reverse bytes))

abbrev pub without_blanks : List ℕ → List ℕ
without_blanks bytes = without_end_blanks (without_front_blanks bytes)

-- one more header, unless it is one of the connection
abbrev pub with_sent : Entries FieldValue → List ℕ × FieldValue → Entries FieldValue
with_sent headers field =
    if is_connection_name field.0 then headers
    else append headers field.0 (record field.1 { bytes = without_blanks field.1.bytes })

abbrev pub sent_headers : Entries FieldValue → Entries FieldValue
sent_headers headers = fold with_sent [] (pairs headers)

-- A response with this status has no content (RFC 9110, sections 15.3.5, 15.3.6 and 15.4.5). Nor has one to HEAD: there
-- the content is left for the connection, which says how long it is and doesn't send it.
abbrev pub has_no_content : ℕ → Bool
has_no_content status = (status == 204) || ((status == 205) || (status == 304))

-- what is sent of a response; `IsEmpty` says which content has no bytes
pub record IsSent {B : Type 0} (IsEmpty : B → Type 0) (response sent : Response B) : Type 0 where
  pub status : (head_of sent).status ≡ (head_of response).status
  pub version : (head_of sent).version ≡ (head_of response).version
  pub headers : (head_of sent).headers ≡ sent_headers (head_of response).headers
  pub empty : IsTrue (has_no_content (head_of response).status) → IsEmpty (body_of sent)
  pub body : IsFalse (has_no_content (head_of response).status) → body_of sent ≡ body_of response
