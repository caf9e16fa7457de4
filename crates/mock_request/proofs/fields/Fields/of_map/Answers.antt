use Rattle.std.proofs.Common.{◌≡◌, refl, ◌∙◌, ap}
use Rattle.http_header.specs.HeaderMap.{pairs}
use Rattle.mock_request.specs.Request.{headers_of}
use Rattle.mock_request.specs.Inner.Parts.{fields_of, headers_in}
use Rattle.mock_request.proofs.PartsLemmas.{are_fields, headers_in-fields}
use Rattle.mock_request.proofs.fields.Fields.of_map.Goals as goal

pushed : (c : goal.In_ok-push_map) → c.push_map.new.parts ≡ fields_of (headers_of (pairs c.args.headers.now))
pushed c = rw (c.in_ok-push_map.ensures.parts, c.in_ok-block.ensures) refl

pub invariant_of-result : goal.invariant_of-result
invariant_of-result c = rw (pushed c) (are_fields _ c.in_ok-push_map.ensures.names)

pub returns : goal.returns
returns c = ap headers_in (pushed c) ∙ headers_in-fields _
