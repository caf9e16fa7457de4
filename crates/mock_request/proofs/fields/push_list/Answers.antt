use Rattle.std.proofs.Common.{◌≡◌, ◌++◌, ◌∷◌, [], ◌+◌, take, arith}
use Rattle.std.proofs.lemmas.List.Elements.{All-push}
use Rattle.http_header.specs.FieldName.{IsHeaderName}
use Rattle.mock_request.specs.Request.{header_of, headers_of}
use Rattle.mock_request.proofs.PartsLemmas.{more_headers, more_fields}
use Rattle.mock_request.proofs.fields.push_list.Goals as goal

pub loop-name-preserved : goal.loop-name-preserved
loop-name-preserved c =
    let headers = c.args.headers.now in
    let i = c.loop-name.name-index in
    let field = c.loop-name-item.result in
    let before = headers_of (take i headers) in
    let more : headers_of (take (i + 1) headers) ≡ before ++ header_of field ∷ [] =
    more_headers headers i field (omega arith) c.loop-name-item.is in
    record {
      parts = rw more (more_fields _ _ _ _ before (header_of field) _ _ c.loop-name.invariant.parts
          c.in_ok-push.ensures.ok c.in_ok-push-2.ensures.ok
          c.as_bytes.ensures.value c.as_bytes-in-loop-name.ensures.value);
      names = rw more (All-push (λ header. IsHeaderName header.name) before (header_of field)
          c.loop-name.invariant.names c.as_bytes.ensures.valid);
    }
