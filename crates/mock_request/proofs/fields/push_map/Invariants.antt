use Rattle.std.proofs.Common.{◌≡◌, ◌++◌, All}
use Rattle.http_header.specs.FieldName.{IsHeaderName}
use Rattle.http_header.specs.HeaderMap.{pairs}
use Rattle.mock_request.specs.Request.{headers_of}
use Rattle.mock_request.specs.Inner.Parts.{fields_of}
use Rattle.mock_request.proofs.fields.push_map.Given as goal

-- what is appended, and what is left, give the whole
abbrev pub invariant-loop-name : goal.invariant-loop-name
invariant-loop-name l = record {
  parts : l.parts ++ fields_of (headers_of l.name-iterator)
      ≡ l.initial.parts ++ fields_of (headers_of (pairs l.headers));
  names : All (λ header. IsHeaderName header.name) (headers_of l.name-iterator)
      → All (λ header. IsHeaderName header.name) (headers_of (pairs l.headers));
}
