use Rattle.std.proofs.Common.{ap, subst, ◌∙◌}
use Rattle.answering.specs.Reply.{response_status}
use Rattle.answering.proofs.HeaderLemmas.{headers_same}
use Rattle.answering.proofs.mapping_response.templated_body_response.Goals as goal
use Rattle.error_code.specs.declared.error_code.ErrorCode.TheVariants.{OverBudget}
use Rattle.answering.proofs.RenderingLemmas.{is_over, is_rendering_with}
use Rattle.stub_response.specs.ErrorReply.{error_reply}
use Rattle.stub_response.specs.Response.{IsRenderedBody}

pub returns-in_ok-clone-in-Some : goal.returns-in_ok-clone-in-Some
returns-in_ok-clone-in-Some c =
    let headers = c.args.headers.now in
    let made = subst (IsRenderedBody c.args.limits c.args.mapping.now c.args.request.now) c.in-Some.is
    c.in_ok-body.ensures in
    let is = is_rendering_with c.args.limits c.args.mapping.now c.args.request.now headers c.in-Some.body
    c.requires made in (
      is.0,
      is.1,
      record {
        version = c.response_with.ensures.version;
        status = c.response_with.ensures.status
            ∙ ap response_status
            (c.code-status.ensures.value ∙ is.2.status);
        headers = c.response_with.ensures.headers
            ∙ headers_same headers c.in_ok-clone-in-Some.field-0 c.in_ok-clone-in-Some.ensures.cases ∙ is.2.headers;
        body = c.response_with.ensures.body ∙ c.whole.ensures ∙ is.2.body;
      },
    )

pub returns-in_ok-response-in-None : goal.returns-in_ok-response-in-None
returns-in_ok-response-in-None c =
    let made = subst (IsRenderedBody c.args.limits c.args.mapping.now c.args.request.now) c.in-None.is
    c.in_ok-body.ensures in (
      error_reply 500 OverBudget,
      is_over c.args.limits c.args.mapping.now c.args.request.now c.args.headers.now c.requires made,
      c.in_ok-response-in-None.ensures,
    )
