-- The request that a message of `http` is.
use Rattle.std.specs.Prelude.{◌≡◌, ℕ, List}
use Rattle.http.specs.Request.{head_of, body_of}
use Rattle.http.specs.declared.request.Request.{Request as Message}
use Rattle.http_header.specs.HeaderMap.{pairs}
use Rattle.http_uri.specs.Uri.{uri_text}
use Rattle.mock_request.specs.Request.{Request, headers_of}
use Rattle.mock_request.specs.Target.{IsTarget}

-- the text of the message's target
abbrev pub target_of : Message (List ℕ) → List ℕ
target_of message = uri_text (head_of message).uri

-- the method and the body of the message, the URL that its target asks for, and its headers: all values of a name are
-- where its first one was
pub record IsReceived (message : Message (List ℕ)) (request : Request) : Type 0 where
  pub method : request.method ≡ (head_of message).method
  pub url : IsTarget (target_of message) request.url
  pub headers : request.headers ≡ headers_of (pairs (head_of message).headers)
  pub body : request.body ≡ body_of message
