-- The JSON of requests of the journal, as the calls under `/requests` answer.
use Rattle.std.specs.Prelude.{ℕ, List, length, map, codes}
use Rattle.std.specs.Str.Lossy.{utf8_lossy}
use Rattle.admin_json.specs.Pairs.{json_of_pairs}
use Rattle.admin_json.specs.Written.{json_of_count, json_of_meta, only_member}
use Rattle.mock_request.specs.HeaderFields.{header_pairs}
use Rattle.mock_request.specs.Request.{Request}
use Rattle.request_journal.specs.declared.entry.Entry.{Entry}
use Rattle.serde_json.specs.Data.{Data, string, array, object, no_members, put}
use Rattle.serde_json.specs.View.{items_of}

-- bytes that aren't UTF-8 are read with U+FFFD in their place
unfoldable pub json_of_received : Request → Data
json_of_received request =
    object (put (codes "url") (string request.url)
    (put (codes "method") (string request.method)
    (put (codes "headers") (json_of_pairs (header_pairs request.headers))
    (put (codes "body") (string (utf8_lossy request.body)) no_members))))

-- as {"event":7,"request":{"body":"","headers":{"x":["1"]},"method":"GET","url":"/a?b"}}
abbrev pub json_of_entry : Entry → Data
json_of_entry entry =
    object (put (codes "request") (json_of_received entry.request)
    (put (codes "event") (json_of_count entry.number) no_members))

abbrev pub json_of_entries : List Entry → Data
json_of_entries entries = array (items_of (map json_of_entry entries))

-- as {"meta":{"total":1},"requests":[..]}, in the order that is given
abbrev pub json_of_requests : List Entry → Data
json_of_requests entries =
    object (put (codes "requests") (json_of_entries entries)
    (put (codes "meta") (json_of_meta (length entries)) no_members))

-- as {"requests":[..]}
abbrev pub json_of_found : List Entry → Data
json_of_found entries = only_member (codes "requests") (json_of_entries entries)

-- as {"count":3}
abbrev pub json_of_number : ℕ → Data
json_of_number count = only_member (codes "count") (json_of_count count)
