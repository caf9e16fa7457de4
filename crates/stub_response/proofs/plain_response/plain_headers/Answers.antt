use Rattle.std.proofs.Common.{◌≡◌, ◌+◌, ◌∷◌, ◌++◌, [], map, take, sym, ap, ◌∙◌, arith}
use Rattle.std.proofs.lemmas.List.{take_more}
use Rattle.stub_response.specs.Inner.Plain.{plain_header}
use Rattle.stub_response.specs.Headers.{headers_of, with_header}
use Rattle.stub_response.proofs.PlainLemmas.{headers_push}
use Rattle.stub_response.proofs.plain_response.plain_headers.Goals as goal

pub loop-header-preserved : goal.loop-header-preserved
loop-header-preserved c =
    let given = c.args.headers.now in
    let i = c.loop-header.header-index in
    let item = c.header-item.result in
    let more : take (i + 1) given ≡ take i given ++ item ∷ [] =
    take_more given i item (omega arith) ∙ ap (λ s. take i given ++ s ∷ []) (sym c.header-item.is) in
    c.in_ok-push_header.ensures
    ∙ ap (λ v. with_header c.loop-header.made (record { name = item.name; value = v })) c.in_ok-value.ensures
    ∙ ap (λ h. with_header h (plain_header item)) c.loop-header.invariant
    ∙ sym (headers_push (take i given) item)
    ∙ ap (λ l. headers_of (map plain_header l)) (sym more)
