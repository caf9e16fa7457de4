use Rattle.std.proofs.Common.{◌∙◌, ap, inl, sym}
use Rattle.http.specs.Request.{body_of, head_of}
use Rattle.http_connections.proofs.ProgressLemmas.{message_of}
use Rattle.http_connections.proofs.request.service.MessageService.at_once.Goals as goal

pub returns-in-Ok-Answered-clause-called : goal.returns-in-Ok-Answered-clause-called
returns-in-Ok-Answered-clause-called g c = λ at_once.
    let begun = c.in-Ok-Answered in
    let same = message_of c.from_parts-message.result (head_of c.args.request) c.args.content
    (c.from_parts-message.ensures.head
    ∙ ap (λ parts. parts.0) {y = (head_of c.args.request, body_of c.args.request)} c.into_parts-head.ensures)
    c.from_parts-message.ensures.body in
    let sent = rw (begun.field-0-is, c.deref-2.ensures, same) at begun.ensures-1 in
    inl (c.args.content, at_once, sent)

pub returns-in-Ok-clause-called : goal.returns-in-Ok-clause-called
returns-in-Ok-clause-called g c = λ at_once.
    let begun = c.in-Ok-Pending in
    let same = message_of c.from_parts-message.result (head_of c.args.request) c.args.content
    (c.from_parts-message.ensures.head
    ∙ ap (λ parts. parts.0) {y = (head_of c.args.request, body_of c.args.request)} c.into_parts-head.ensures)
    c.from_parts-message.ensures.body in
    let may = rw (begun.field-0-is, c.deref-2.ensures, same) at begun.ensures-1 in
    ((c.args.content, at_once, rw (sym c.in-Ok.ensures.exchange) at may.0), c.in-Ok.ensures.giver)
