use Rattle.std.proofs.Common.{◌≡◌, refl, ◌∙◌, ap}
use Rattle.mock_request.specs.Request.{headers_of}
use Rattle.mock_request.specs.Inner.Parts.{fields_of, headers_in}
use Rattle.mock_request.proofs.PartsLemmas.{are_fields, headers_in-fields}
use Rattle.mock_request.proofs.fields.Fields.of_list.Goals as goal

pushed : (c : goal.In_ok-push_list) → c.push_list.new.parts ≡ fields_of (headers_of c.args.headers.now)
pushed c = rw (c.in_ok-push_list.ensures.parts, c.in_ok-block.ensures) refl

pub invariant_of-result : goal.invariant_of-result
invariant_of-result c = rw (pushed c) (are_fields _ c.in_ok-push_list.ensures.names)

pub returns : goal.returns
returns c = ap headers_in (pushed c) ∙ headers_in-fields _
