use Rattle.std.proofs.Common.{IfOk, refl, subst}
use Rattle.std.proofs.lemmas.Result.{IfOk-weaker}
use Rattle.request_data.specs.RequestTree.{request_tree}
use Rattle.stub_response.proofs.ResponseLemmas.{reply_over}
use Rattle.stub_response.specs.Response.{IsReplyOver, Rendered}
use Rattle.stub_response.proofs.respond.reply_of.Goals as goal

pub returns-in_ok-template-in-Templated : goal.returns-in_ok-template-in-Templated
returns-in_ok-template-in-Templated c =
    let template = c.in_ok-template-in-Templated.template in
    let request = c.args.request.now in
    let status = c.args.response.now.status in
    let root = request_tree request template in
    let lines = c.as_slice-in-Templated.result.now in
    let body = c.in-Templated.body in
    IfOk-weaker c.templated_reply.result _ _ (λ reply. reply_over c.args.limits c.args.url.now status
    c.args.response.now.content c.in-Templated.headers lines body request template root reply c.in-Templated.is
    c.as_slice-in-Templated.ensures.value c.in_ok-template-in-Templated.ensures refl)
    (subst (λ t. IfOk c.templated_reply.result
    (IsReplyOver (Rendered (request_tree request t)) c.args.limits status lines
    body (request_tree request t))) c.as_ref.ensures.value c.templated_reply.ensures)
