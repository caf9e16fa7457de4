-- The message that is sent to an upstream for a request, and the reply that a message of the upstream is (RFC 9110,
-- section 7.6).
use Rattle.std.specs.Prelude.{◌≡◌, ◌≤◌, ℕ, List, None, Some, length, ◌==◌, false, if◌then◌else◌}
use Rattle.http.specs.Request.{head_of, body_of}
use Rattle.http.specs.declared.request.Request.{Request as Message}
use Rattle.http.specs.declared.response.Parts.{Parts}
use Rattle.http.specs.declared.version.TheConstants.Version.{HTTP_11}
use Rattle.http_body_util.specs.declared.full.Full.{Full}
use Rattle.http_header.specs.HeaderMap.{pairs}
use Rattle.http_uri.specs.Grammar.{without_fragment}
use Rattle.http_uri.specs.Uri.{HasParts}
use Rattle.mapping_model.specs.declared.reply.Reply.{Reply}
use Rattle.mock_request.specs.Request.{Request, headers_of}
use Rattle.proxy_client.specs.declared.content.TheConstants.{CONTENT_LIMIT}
use Rattle.recorder.specs.ForwardCount.{is_forwarded_too_often}
use Rattle.recorder.specs.Forwarding.{IsRelayed, forwarded_headers, forwarded_path, map_of}

-- The request may be forwarded once more. The message has the method, the headers and the body that are passed on, and
-- asks for the path and query; a fragment is no part of what is asked for (RFC 9110, section 7.1).
pub record IsForwarded (target : List ℕ) (request : Request) (message : Message (Full (List ℕ))) : Type 0 where
  pub often : is_forwarded_too_often request.headers ≡ false
  pub method : (head_of message).method ≡ request.method
  pub uri : HasParts (head_of message).uri None None (without_fragment (forwarded_path target request.url))
  pub version : (head_of message).version ≡ HTTP_11
  pub headers : (head_of message).headers ≡ map_of (forwarded_headers target request)
  pub body : (body_of message).buf ≡ (if length request.body == 0 then None else Some request.body)

-- the reply that a message with this head and this content is
pub record IsReplyMessage (head : Parts) (content : List ℕ) (reply : Reply) : Type 0 where
  pub status : reply.status ≡ head.status
  pub headers : IsRelayed (headers_of (pairs head.headers)) reply.headers
  pub body : reply.body ≡ content

-- the reply that a message is whose content is within the limit
abbrev pub IsSomeReply : Reply → Type 0
IsSomeReply reply =
    (head : Parts) × (content : List ℕ) × (length content ≤ CONTENT_LIMIT) × IsReplyMessage head content reply
