use Rattle.std.proofs.lemmas.Result.{IfOk-weaker}
use Rattle.stub_response.proofs.ResponseLemmas.{meant_reply}
use Rattle.stub_response.specs.Response.{IsRendering, IsResponse}
use Rattle.stub_response.proofs.respond.respond.Goals as goal

pub returns-clause-response : goal.returns-clause-response
returns-clause-response c =
    let limits = c.args.limits in
    let mapping = c.args.mapping.now in
    let request = c.args.request.now in
    IfOk-weaker c.reply_of.result (IsRendering limits mapping request) (IsResponse limits mapping request)
    (λ reply. meant_reply limits mapping.request.url mapping.response.status mapping.response.content request reply)
    c.reply_of.ensures
