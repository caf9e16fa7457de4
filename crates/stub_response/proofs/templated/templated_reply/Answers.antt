use Rattle.std.proofs.Common.{◌≡◌, inl, inr, option_copied, subst}
use Rattle.std.proofs.lemmas.Result.{IfOk-weaker}
use Rattle.data_tree.specs.RequestData.{root_of}
use Rattle.error_code.specs.declared.error_code.ErrorCode.TheVariants.{OverBudget}
use Rattle.request_data.specs.RequestTree.{request_tree}
use Rattle.stub_response.proofs.AlikeLemmas.{alike_made, no_empty_name}
use Rattle.stub_response.specs.ErrorReply.{error_reply}
use Rattle.stub_response.specs.Inner.Alike.{IsDataWithin}
use Rattle.stub_response.specs.Response.{IsMade, Rendered, templates_of}
use Rattle.stub_response.proofs.templated.templated_reply.Goals as goal

pub returns-in-Some : goal.returns-in-Some
returns-in-Some c =
    let part = root_of c.in-Some.data in
    let template = option_copied c.args.template in
    let whole = request_tree c.args.request.now template in
    let status = c.args.status in
    let lines = c.args.headers.now in
    let content = c.args.body.now in
    let within = subst (IsDataWithin c.args.limits (templates_of lines content) c.needed_by-needed.result whole)
    c.in-Some.is c.in_ok-data.ensures in
    IfOk-weaker c.rendered_reply.result (IsMade (Rendered part) status lines content) _ (λ reply h. inl (
      within.0,
      alike_made part whole (no_empty_name c.args.request.now template) status lines content reply
          (c.needed_by-needed.ensures part whole within.1) h,
    )) c.rendered_reply.ensures

pub returns-in-None : goal.returns-in-None
returns-in-None c =
    IfOk-weaker c.error_reply.result (λ reply. reply ≡ error_reply 500 OverBudget) _
    (λ reply same. inr (
      subst (IsDataWithin c.args.limits (templates_of c.args.headers.now c.args.body.now)
          c.needed_by-needed.result (request_tree c.args.request.now (option_copied c.args.template))) c.in-None.is
          c.in_ok-data.ensures,
      same,
    )) c.error_reply.ensures
