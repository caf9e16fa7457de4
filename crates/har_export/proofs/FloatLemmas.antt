-- A document has no number with a fraction, so its compact text is determined.
use Rattle.std.proofs.Common.{◌≡◌, ℕ, Bool, true, false, List, [], ◌∷◌, length, refl, codes}
use Rattle.std.specs.Prelude.{if◌then◌else◌}
use Rattle.std.specs.Str.{is_utf8}
use Rattle.mapping_model.specs.declared.reply.Reply.{Reply}
use Rattle.mock_request.specs.Cookies.{cookie_pairs}
use Rattle.mock_request.specs.HeaderFields.{header_pairs}
use Rattle.mock_request.specs.Query.{query_pairs}
use Rattle.mock_request.specs.Request.{Request}
use Rattle.recorder.specs.declared.exchange.Exchange.{Exchange}
use Rattle.serde_json.specs.Data.{Data, number, unsigned, string, object, Items, no_items, item, no_members, put}
use Rattle.serde_json.specs.Written.{has_float, items_have_float}
use Rattle.har_export.specs.Content.{content_text, json_of_content, json_of_post_data, mime_type, with_post_data}
use Rattle.har_export.specs.Document.{AreEntries, IsHar, json_of_entry}
use Rattle.har_export.specs.Message.{json_of_reply, json_of_request, received_members}
use Rattle.har_export.specs.Pairs.{cookies_set, json_of_pairs, reply_pairs}

pairs_plain : (pairs : List (List ℕ × List ℕ)) → has_float (json_of_pairs pairs) ≡ false
pairs_plain [] = refl
pairs_plain (pair ∷ pairs) = pairs_plain pairs

content_plain_by
    : (is_text : Bool) (mime text : List ℕ) (size : ℕ)
    → has_float (object (put (codes "text") (string text)
    (put (codes "size") (number (unsigned size))
    (put (codes "mimeType") (string mime)
    (if is_text then no_members else put (codes "encoding") (string (codes "base64")) no_members)))))
    ≡ false
content_plain_by true mime text size = refl
content_plain_by false mime text size = refl

content_plain : (mime bytes : List ℕ) → has_float (json_of_content mime bytes) ≡ false
content_plain mime bytes = content_plain_by (is_utf8 bytes) mime (content_text bytes) (length bytes)

data_plain_by
    : (is_text : Bool) (mime text : List ℕ)
    → has_float (object (put (codes "text") (string text)
    (put (codes "mimeType") (string mime)
    (if is_text then no_members else put (codes "comment") (string (codes "base64")) no_members))))
    ≡ false
data_plain_by true mime text = refl
data_plain_by false mime text = refl

data_plain : (mime bytes : List ℕ) → has_float (json_of_post_data mime bytes) ≡ false
data_plain mime bytes = data_plain_by (is_utf8 bytes) mime (content_text bytes)

reply_plain : (reply : Reply) → has_float (json_of_reply reply) ≡ false
unfolding json_of_reply
reply_plain reply =
    let pairs = reply_pairs reply.headers in
    rw (pairs_plain pairs, pairs_plain (cookies_set pairs), content_plain (mime_type pairs) reply.body) refl

request_plain_by
    : (target : List ℕ) (request : Request) (url mime body : List ℕ)
    → has_float (object (put (codes "url") (string url)
    (put (codes "queryString") (json_of_pairs (query_pairs request.url))
    (with_post_data mime body (received_members request)))))
    ≡ false
unfolding received_members
request_plain_by target request url mime [] =
    rw (
      pairs_plain (query_pairs request.url),
      pairs_plain (header_pairs request.headers),
      pairs_plain (cookie_pairs request.headers),
    ) refl
request_plain_by target request url mime (b ∷ bs) =
    rw (
      pairs_plain (query_pairs request.url),
      pairs_plain (header_pairs request.headers),
      pairs_plain (cookie_pairs request.headers),
      data_plain mime (b ∷ bs),
    ) refl

request_plain : (target : List ℕ) (request : Request) → has_float (json_of_request target request) ≡ false
unfolding json_of_request
request_plain target request = request_plain_by target request _ _ request.body

pub entry_plain : (target started : List ℕ) (exchange : Exchange)
    → has_float (json_of_entry target started exchange) ≡ false
unfolding json_of_entry
entry_plain target started exchange =
    rw (request_plain target exchange.request, reply_plain exchange.reply) refl

entries_plain
    : (target : List ℕ) (exchanges : List Exchange) (entries : Items) → AreEntries target exchanges entries
    → items_have_float entries ≡ false
entries_plain target [] no_items are = refl
entries_plain target [] (item d ds) are = absurd are
entries_plain target (e ∷ es) no_items are = absurd are
entries_plain target (e ∷ es) (item d ds) are =
    rw (are.0.same, entry_plain target are.0.started e, entries_plain target es ds are.1) refl

pub har_plain : (target : List ℕ) (exchanges : List Exchange) (har : Data) → IsHar target exchanges har
    → has_float har ≡ false
har_plain target exchanges har is = rw (is.2, entries_plain target exchanges is.0 is.1) refl
