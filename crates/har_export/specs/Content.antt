-- The content of a message as HAR writes it: as text, or, where it isn't UTF-8, in base64.
use Rattle.std.specs.Prelude.{ℕ, List, [], ◌∷◌, length, codes, if◌then◌else◌}
use Rattle.std.specs.Str.{is_utf8}
use Rattle.base64.specs.Engines.{standard}
use Rattle.base64.specs.GeneralPurpose.{encode_of}
use Rattle.serde_json.specs.Data.{Data, number, unsigned, string, object, Members, no_members, put}
use Rattle.har_export.specs.Pairs.{first_named}

abbrev pub content_text : List ℕ → List ℕ
content_text bytes = if is_utf8 bytes then bytes else encode_of standard bytes

-- says that a content is in base64, where it is
abbrev pub with_encoding : List ℕ → List ℕ → Members → Members
with_encoding name bytes ms = if is_utf8 bytes then ms else put name (string (codes "base64")) ms

-- the type of a content by the message's headers
abbrev pub mime_type : List (List ℕ × List ℕ) → List ℕ
mime_type pairs = first_named (codes "content-type") (codes "application/octet-stream") pairs

-- the content of a request, as {"mimeType":"text/plain","text":"hi"}
abbrev pub json_of_post_data : List ℕ → List ℕ → Data
json_of_post_data mime bytes =
    object (put (codes "text") (string (content_text bytes))
    (put (codes "mimeType") (string mime) (with_encoding (codes "comment") bytes no_members)))

-- among the members of a request: only where it has content
abbrev pub with_post_data : List ℕ → List ℕ → Members → Members
with_post_data mime [] ms = ms
with_post_data mime (b ∷ bs) ms = put (codes "postData") (json_of_post_data mime (b ∷ bs)) ms

-- the content of a reply, as {"mimeType":"text/plain","size":2,"text":"hi"}
abbrev pub json_of_content : List ℕ → List ℕ → Data
json_of_content mime bytes =
    object (put (codes "text") (string (content_text bytes))
    (put (codes "size") (number (unsigned (length bytes)))
    (put (codes "mimeType") (string mime) (with_encoding (codes "encoding") bytes no_members))))
