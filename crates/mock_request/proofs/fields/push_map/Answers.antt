use Rattle.std.proofs.Common.{◌≡◌, ◌∷◌, All, ap, sym, subst}
use Rattle.std.proofs.lemmas.List.Elements.{All-cons}
use Rattle.http_header.specs.FieldName.{IsHeaderName}
use Rattle.mock_request.specs.Request.{header_of, headers_of}
use Rattle.mock_request.proofs.PartsLemmas.{moved_fields}
use Rattle.mock_request.proofs.fields.push_map.Goals as goal

pub loop-name-preserved : goal.loop-name-preserved
loop-name-preserved c =
    let header = header_of (c.in-Some.name.now, c.in-Some.value.now) in
    let left : headers_of c.loop-name.name-iterator ≡ header ∷ headers_of c.next.new.self =
    ap headers_of c.in-Some.ensures.steps in
    record {
      parts = moved_fields _ _ _ _ _ _ header _ _ c.loop-name.invariant.parts left
          c.in_ok-push.ensures.ok c.in_ok-push-2.ensures.ok
          c.as_bytes.ensures.value c.as_bytes-in-loop-name.ensures.value;
      names = λ rest. c.loop-name.invariant.names (subst (All (λ h. IsHeaderName h.name)) (sym left)
          (All-cons (λ h. IsHeaderName h.name) header _ c.as_bytes.ensures.valid rest));
    }
