use Rattle.std.proofs.Common.{◌≡◌, ◌++◌, take, All}
use Rattle.http_header.specs.FieldName.{IsHeaderName}
use Rattle.mock_request.specs.Request.{headers_of}
use Rattle.mock_request.specs.Inner.Parts.{fields_of}
use Rattle.mock_request.proofs.fields.push_list.Given as goal

abbrev pub invariant-loop-name : goal.invariant-loop-name
invariant-loop-name l = record {
  parts : l.parts ≡ l.initial.parts ++ fields_of (headers_of (take l.name-index l.headers));
  names : All (λ header. IsHeaderName header.name) (headers_of (take l.name-index l.headers));
}
