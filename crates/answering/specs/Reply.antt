-- The response of `http` that a reply is.
use Rattle.std.specs.Prelude.{◌≡◌, ℕ, ◌&&◌, List, if◌then◌else◌, nat_le, nat_lt}
use Rattle.http.specs.Response.{head_of, body_of}
use Rattle.http.specs.declared.response.Response.{Response}
use Rattle.http.specs.declared.version.TheConstants.Version.{HTTP_11}
use Rattle.mapping_model.specs.declared.reply.Reply.{Reply}
use Rattle.stub_response.specs.Headers.{headers_of}

-- a number of three digits is a status (RFC 9110, section 15); for another one 500 is sent
abbrev pub response_status : ℕ → ℕ
response_status status = if nat_le 100 status && nat_lt status 1000 then status else 500

pub record IsResponseOfReply (reply : Reply) (response : Response (List ℕ)) : Type 0 where
  pub version : (head_of response).version ≡ HTTP_11
  pub status : (head_of response).status ≡ response_status reply.status
  pub headers : (head_of response).headers ≡ headers_of reply.headers
  pub body : body_of response ≡ reply.body
