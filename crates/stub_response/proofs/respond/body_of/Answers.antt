use Rattle.std.proofs.Common.{IfOk, subst}
use Rattle.std.proofs.lemmas.Result.{IfOk-weaker}
use Rattle.request_data.specs.RequestTree.{request_tree}
use Rattle.stub_response.proofs.ResponseLemmas.{body_over}
use Rattle.stub_response.specs.Response.{IsBodyOver, Rendered}
use Rattle.stub_response.proofs.respond.body_of.Goals as goal

pub returns-in_ok-template-in-Templated : goal.returns-in_ok-template-in-Templated
returns-in_ok-template-in-Templated c =
    let template = c.in_ok-template-in-Templated.template in
    let request = c.args.request.now in
    let limits = c.args.limits in
    let lines = c.as_slice.result.now in
    let body = c.in-Templated.body in
    IfOk-weaker c.templated_body.result _ _ (λ made. body_over limits c.args.url.now c.args.content.now
    c.in-Templated.headers lines body request template made c.in-Templated.is c.as_slice.ensures.value
    c.in_ok-template-in-Templated.ensures)
    (subst (λ t. IfOk c.templated_body.result (IsBodyOver (Rendered (request_tree request t)) limits lines body
    (request_tree request t))) c.as_ref.ensures.value c.templated_body.ensures)
