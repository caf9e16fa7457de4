-- What is sent to a target for a request, and what is relayed of the reply: the part of an intermediary (RFC 9110,
-- section 7.6).
use Rattle.std.specs.Prelude.{ℕ, ◌≤◌, Bool, not, ◌||◌, List, [], ◌∷◌, ◌++◌, length, map, All, IsPermutation}
use Rattle.std.specs.Prelude.{codes, bytes_eq, if◌then◌else◌}
use Rattle.std.specs.Cmp.Lexicographic.{slice_cmp}
use Rattle.std.specs.List.{filter, list_any}
use Rattle.std.specs.List.Sorted.{IsSortedByKey, IsStableByKey}
use Rattle.std.specs.Ordering.{nat_cmp}
use Rattle.http_header.specs.FieldName.{IsHeaderName}
use Rattle.http_header.specs.FieldValue.{FieldValue, IsFieldValue, plain_value}
use Rattle.http_header.specs.HeaderMap.{Entries, append_all}
use Rattle.mapping_model.specs.declared.reply.ReplyHeader.{ReplyHeader}
use Rattle.mock_request.specs.Request.{Header, Request}
use Rattle.recorder.specs.Connection.{is_of_connection}
use Rattle.recorder.specs.ForwardCount.{count_header, count_name}
use Rattle.recorder.specs.Target.{scheme, after_scheme, authority_of, target_prefix}

-- ---- the URL

-- the host and the port as they are written
abbrev pub target_authority : List ℕ → List ℕ
target_authority target = authority_of (after_scheme target)

-- the path and the query that the target is asked for
abbrev pub forwarded_path : List ℕ → List ℕ → List ℕ
forwarded_path target url = target_prefix target ++ url

-- the same as an absolute URL
abbrev pub forwarded_url : List ℕ → List ℕ → List ℕ
forwarded_url target url = scheme ++ (target_authority target ++ forwarded_path target url)

-- ---- headers that aren't passed on

-- those of the connection, and of a request `host`, which is that of the target, `accept-encoding`, so that replies
-- aren't compressed, and the count of forwards, which is set anew
abbrev pub is_left_out_of_request : List Header → List ℕ → Bool
is_left_out_of_request message name =
    list_any (bytes_eq name) (codes "host" ∷ codes "accept-encoding" ∷ count_name ∷ [])
    || is_of_connection message name

-- and of a reply `date`, since it is given again at other times
abbrev pub is_left_out_of_reply : List Header → List ℕ → Bool
is_left_out_of_reply message name = bytes_eq name (codes "date") || is_of_connection message name

-- ---- the request

abbrev pub host_header : List ℕ → Header
host_header target = record { name = codes "host"; value = target_authority target }

-- requests with these methods have content as a rule (RFC 9110, section 8.6; RFC 5789, section 2)
abbrev pub expects_content : List ℕ → Bool
expects_content method = list_any (bytes_eq method) (codes "POST" ∷ codes "PUT" ∷ codes "PATCH" ∷ [])

-- says that there is no content where some is expected; the connection says how long other content is
abbrev pub length_headers : List ℕ → List ℕ → List Header
length_headers method [] =
    if expects_content method then record { name = codes "content-length"; value = codes "0" } ∷ [] else []
length_headers method (b ∷ bs) = []

-- those that this program sets; `host` is the first (RFC 9110, section 7.2)
abbrev pub own_headers : List ℕ → Request → List Header
own_headers target request =
    host_header target ∷ count_header request.headers ∷ length_headers request.method request.body

-- of some headers of a message those that are passed on
abbrev pub passed_on : List Header → List Header → List Header
passed_on message headers = filter (λ header. not (is_left_out_of_request message header.name)) headers

abbrev pub forwarded_headers : List ℕ → Request → List Header
forwarded_headers target request = own_headers target request ++ passed_on request.headers request.headers

-- the headers one after the other in a map
abbrev pub field_of : Header → List ℕ × FieldValue
field_of header = (header.name, plain_value header.value)

abbrev pub map_of : List Header → Entries FieldValue
map_of headers = append_all [] (map field_of headers)

-- A map has as many names at most.
abbrev pub most_names : ℕ
most_names = 24576

-- each value is one that a header may have, and a map has room for them
pub record AreSendable (headers : List Header) : Type 0 where
  pub values : All (λ header. IsFieldValue header.value) headers
  pub few : length headers ≤ most_names

-- ---- the reply

abbrev pub reply_header : Header → ReplyHeader
reply_header header = record { name = header.name; value = header.value }

-- of some headers of a message those that are passed back
abbrev pub passed_back : List Header → List Header → List ReplyHeader
passed_back message headers =
    map reply_header (filter (λ header. not (is_left_out_of_reply message header.name)) headers)

-- its name is in lower case, and its value one that a header may have
abbrev pub IsField : ReplyHeader → Type 0
IsField header = IsHeaderName header.name × IsFieldValue header.value

-- the headers of a reply in the order of their names, those of a name in the order in which they were received
pub record IsRelayed (received : List Header) (relayed : List ReplyHeader) : Type 0 where
  pub same : IsPermutation (passed_back received received) relayed
  pub in_order : IsSortedByKey (λ (header : ReplyHeader). header.name) (slice_cmp nat_cmp) relayed
  pub stable :
      IsStableByKey (λ (header : ReplyHeader). header.name) (slice_cmp nat_cmp) (passed_back received received) relayed
  pub fields : All IsField relayed
