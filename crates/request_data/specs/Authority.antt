-- The authority that a request names: the text of its first `host` header (RFC 9110, section 7.2).
use Rattle.std.specs.Prelude.{ℕ, List, codes}
use Rattle.mock_request.specs.Request.{Header}
use Rattle.mock_request.specs.Values.{first_of}
use Rattle.mock_request.specs.HeaderFields.{texts_of}

-- the text of the first `host` header, and nothing where there is none
abbrev pub authority_of : List Header → List ℕ
authority_of headers = first_of (texts_of (codes "host") headers)
