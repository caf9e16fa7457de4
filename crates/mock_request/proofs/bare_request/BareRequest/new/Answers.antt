use Rattle.std.proofs.Common.{◌≡◌, ◌++◌, refl, arith}
use Rattle.mock_request.proofs.BareLemmas.{joined_parts}
use Rattle.mock_request.proofs.bare_request.BareRequest.new.Goals as goal

pub returns : goal.returns
returns c =
    let whole : c.in_ok-joined.field-0.items ≡ c.args.method.now ++ (c.args.url.now ++ c.args.body.now) =
    rw (c.in_ok-joined.ensures, c.as_bytes.ensures.value, c.as_bytes-2.ensures.value) refl in
    joined_parts c.args.method.now c.args.url.now c.args.body.now c.in_ok-joined.field-0.items
    c.in-Ok-Ok.url_start c.in-Ok-Ok.body_start whole (omega arith) (omega arith)
