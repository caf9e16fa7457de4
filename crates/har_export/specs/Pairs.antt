-- Names with values as HAR writes them: headers, cookies and the parameters of a query, each one an object.
use Rattle.std.specs.Prelude.{ℕ, List, [], ◌∷◌, Option, None, map, codes, if◌then◌else◌}
use Rattle.std.specs.List.{before_first, filter_map}
use Rattle.std.specs.Str.{str_eq_ignore_ascii_case}
use Rattle.std.specs.Str.Lossy.{utf8_lossy}
use Rattle.mapping_model.specs.declared.reply.ReplyHeader.{ReplyHeader}
use Rattle.mock_request.specs.Cookies.{cookie_in, is_semicolon, without_spaces_around}
use Rattle.serde_json.specs.Data.{Data, string, array, object, no_members, put}
use Rattle.serde_json.specs.View.{items_of}

-- as {"name":"x","value":"1"}
abbrev pub json_of_pair : List ℕ × List ℕ → Data
json_of_pair pair = object (put (codes "value") (string pair.1) (put (codes "name") (string pair.0) no_members))

-- in their order
abbrev pub json_of_pairs : List (List ℕ × List ℕ) → Data
json_of_pairs pairs = array (items_of (map json_of_pair pairs))

-- the value of the first one of that name, which has no case (RFC 9110, section 5.1); without one, the default
abbrev pub first_named : List ℕ → List ℕ → List (List ℕ × List ℕ) → List ℕ
first_named name default [] = default
first_named name default (pair ∷ pairs) =
    if str_eq_ignore_ascii_case name pair.0 then pair.1 else first_named name default pairs

-- the headers of a reply as names and texts: bytes that aren't UTF-8 are read as U+FFFD
abbrev pub reply_pair : ReplyHeader → List ℕ × List ℕ
reply_pair header = (header.name, utf8_lossy header.value)

abbrev pub reply_pairs : List ReplyHeader → List (List ℕ × List ℕ)
reply_pairs headers = map reply_pair headers

-- the cookie that a `set-cookie` header sets (RFC 6265, section 4.1.1), without its attributes
abbrev pub cookie_set : List ℕ × List ℕ → Option (List ℕ × List ℕ)
cookie_set pair =
    if str_eq_ignore_ascii_case (codes "set-cookie") pair.0
    then cookie_in (without_spaces_around (before_first is_semicolon pair.1)) else None

abbrev pub cookies_set : List (List ℕ × List ℕ) → List (List ℕ × List ℕ)
cookies_set pairs = filter_map cookie_set pairs
