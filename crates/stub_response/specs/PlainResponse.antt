-- What all responses of a mapping without templates have.
use Rattle.std.specs.Prelude.{◌≡◌, ℕ, List}
use Rattle.mapping_model.specs.declared.header_lines.HeaderLine.{HeaderLine}
use Rattle.mapping_model.specs.declared.reply.Reply.{Reply}
use Rattle.mapping_model.specs.declared.response_spec.Body.{Body}
use Rattle.stub_response.specs.Headers.{headers_of}
use Rattle.stub_response.specs.Response.{IsMade, Itself}
use Rattle.stub_response.specs.declared.plain_response.PlainResponse.{PlainResponse}

-- it holds what the reply says
pub record HoldsReply (reply : Reply) (made : PlainResponse) : Type 0 where
  pub status : made.status ≡ reply.status
  pub headers : made.headers ≡ headers_of reply.headers
  pub body : made.body ≡ reply.body

-- it holds the reply with this status, these lines and this body
abbrev pub HoldsLines : ℕ → List (HeaderLine (List ℕ)) → Body (List ℕ) → PlainResponse → Type 0
HoldsLines status lines content made =
    (reply : Reply) × IsMade Itself status lines content reply × HoldsReply reply made
