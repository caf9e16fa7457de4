use Rattle.std.proofs.Common.{ap, subst, ◌∙◌}
use Rattle.answering.specs.Reply.{response_status}
use Rattle.answering.proofs.HeaderLemmas.{headers_same}
use Rattle.answering.proofs.RenderingLemmas.{is_rendering}
use Rattle.answering.proofs.begin_event.begin_event.Goals as goal
use Rattle.stub_response.specs.Prepared.{IsPrepared}

pub returns : goal.returns
returns g c =
    let plain = c.in-Response.plain in
    let mapping = c.in-Stub.captured.mapping.spec in
    let prepared = subst (IsPrepared mapping.response) c.in-Response.is c.prepared.ensures in
    let is = is_rendering c.args.site.now.limits mapping c.in-Serve._request plain prepared in (
      is.0,
      rw (c.in-Serve.is, c.in-Stub.is) is.1,
      record {
        version = c.response_with.ensures.version;
        status = c.response_with.ensures.status ∙ ap response_status is.2.status;
        headers = c.response_with.ensures.headers
            ∙ headers_same plain.headers c.in_ok-headers.headers c.in_ok-headers.ensures.cases ∙ is.2.headers;
        body = c.response_with.ensures.body ∙ c.whole.ensures ∙ c.in_ok-body.ensures.cases ∙ is.2.body;
      },
    )
