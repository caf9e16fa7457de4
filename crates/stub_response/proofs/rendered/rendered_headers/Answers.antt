use Rattle.std.proofs.Common.{◌≡◌, ◌+◌, ◌∷◌, ◌++◌, [], take, sym, ap, ◌∙◌, subst, arith}
use Rattle.std.specs.List.{AllZip}
use Rattle.std.proofs.lemmas.List.{take_more}
use Rattle.data_tree.specs.RequestData.{root_of}
use Rattle.stub_response.proofs.ListLemmas.{all_zip_push}
use Rattle.stub_response.specs.Response.{IsLine, Rendered}
use Rattle.stub_response.proofs.rendered.rendered_headers.Goals as goal

pub loop-header-preserved : goal.loop-header-preserved
loop-header-preserved c =
    let given = c.args.headers.now in
    let i = c.loop-header.header-index in
    let item = c.header-item.result in
    let made = c.in_ok-rendered_header.field-0 in
    let more : take (i + 1) given ≡ take i given ++ item ∷ [] =
    take_more given i item (omega arith) ∙ ap (λ s. take i given ++ s ∷ []) (sym c.header-item.is) in
    subst (λ l. AllZip (IsLine (Rendered (root_of c.args.request.now))) l c.push.new.self.items) (sym more)
    (subst (AllZip (IsLine (Rendered (root_of c.args.request.now))) (take i given ++ item ∷ []))
    (sym c.in_ok-push.ensures.items)
    (all_zip_push (IsLine (Rendered (root_of c.args.request.now))) (take i given) c.loop-header.made.items item
    made c.loop-header.invariant
    c.in_ok-rendered_header.ensures))
