-- The request and the reply of an exchange as HAR writes them (HAR 1.2, `request` and `response`).
use Rattle.std.specs.Prelude.{ℕ, nat_le, ◌&&◌, if◌then◌else◌, List, [], length, pos, neg_ℤ, unwrap_or, codes}
use Rattle.http.specs.StatusCode.{reason_phrase}
use Rattle.mapping_model.specs.declared.reply.Reply.{Reply}
use Rattle.mock_request.specs.Cookies.{cookie_pairs}
use Rattle.mock_request.specs.HeaderFields.{header_pairs}
use Rattle.mock_request.specs.Query.{query_pairs}
use Rattle.mock_request.specs.Request.{Request}
use Rattle.recorder.specs.Forwarding.{forwarded_url}
use Rattle.serde_json.specs.Data.{Data, number, unsigned, negative, string, object, Members, no_members, put}
use Rattle.har_export.specs.Content.{json_of_content, mime_type, with_post_data}
use Rattle.har_export.specs.Pairs.{cookies_set, first_named, json_of_pairs, reply_pairs}

-- a size that isn't known
abbrev pub unknown_size : Data
unknown_size = number (negative (neg_ℤ (pos 1)))

-- what was received
unfoldable pub received_members : Request → Members
received_members request =
    put (codes "method") (string request.method)
    (put (codes "httpVersion") (string (codes "HTTP/1.1"))
    (put (codes "headersSize") unknown_size
    (put (codes "headers") (json_of_pairs (header_pairs request.headers))
    (put (codes "cookies") (json_of_pairs (cookie_pairs request.headers))
    (put (codes "bodySize") (number (unsigned (length request.body))) no_members)))))

-- its URL is the one that it was forwarded to, from that target
unfoldable pub json_of_request : List ℕ → Request → Data
json_of_request target request =
    object (put (codes "url") (string (forwarded_url target request.url))
    (put (codes "queryString") (json_of_pairs (query_pairs request.url))
    (with_post_data (mime_type (header_pairs request.headers)) request.body (received_members request))))

-- the standard phrase of a status (RFC 9110, section 15), or none; `http` has statuses from 100 to 999
abbrev pub status_phrase : ℕ → List ℕ
status_phrase status = if nat_le 100 status && nat_le status 999 then unwrap_or (reason_phrase status) [] else []

unfoldable pub json_of_reply : Reply → Data
json_of_reply reply =
    object (put (codes "statusText") (string (status_phrase reply.status))
    (put (codes "status") (number (unsigned reply.status))
    (put (codes "redirectURL") (string (first_named (codes "location") [] (reply_pairs reply.headers)))
    (put (codes "httpVersion") (string (codes "HTTP/1.1"))
    (put (codes "headersSize") unknown_size
    (put (codes "headers") (json_of_pairs (reply_pairs reply.headers))
    (put (codes "cookies") (json_of_pairs (cookies_set (reply_pairs reply.headers)))
    (put (codes "content") (json_of_content (mime_type (reply_pairs reply.headers)) reply.body)
    (put (codes "bodySize") (number (unsigned (length reply.body))) no_members)))))))))
