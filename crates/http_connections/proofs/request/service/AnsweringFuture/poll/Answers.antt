use Rattle.std.proofs.Common.{◌≡◌, ◌∙◌, ap, sym}
use Rattle.http.specs.Request.{head_of}
use Rattle.http_connections.proofs.Exchanges.{by_same_at_once, by_same_later, given_at_once, given_by_site, given_later}
use Rattle.http_connections.proofs.request.service.AnsweringFuture.poll.Goals as goal
use Rattle.http_connections.specs.Sent.{IsForwardedBy, IsGivenBy}
use Rattle.http_connections.specs.Site.{giver_of}

pub returns-in-Pending-poll-clause-same : goal.returns-in-Pending-poll-clause-same
returns-in-Pending-poll-clause-same g c =
    rw c.in-Waiting.is
    (given_by_site g.A.Content.Default.is_default (IsGivenBy g.A.Answers.number_of g.A.Answers.gives)
    (giver_of c.in-Waiting.waiting.value.slot) (giver_of c.poll.new.self.slot)
    (ap giver_of (rw c.deref_mut.ensures.value at c.poll.ensures.slot)) (head_of c.in-Waiting.waiting.value.request)
    (head_of c.poll.new.self.request) (g.G.Future.gives c.in-Waiting.waiting.value.content)
    (g.G.Future.gives c.poll.new.self.content) (rw c.deref_mut.ensures.value at c.in-Pending-poll.ensures.same)
    (rw c.deref_mut.ensures.value at c.in-Pending-poll.ensures.rest))

pub returns-in-Ready-Ok-Answered-clause-value : goal.returns-in-Ready-Ok-Answered-clause-value
returns-in-Ready-Ok-Answered-clause-value g c =
    let began = c.in-Ready-Ok-Answered in
    rw c.in-Waiting.is (rw (began.field-0-is, began.field-0-0-is, c.deref_mut.ensures.value) at began.ensures.value)

pub returns-in-Ok-clause-value : goal.returns-in-Ok-clause-value
returns-in-Ok-clause-value g c =
    let began = c.in-Ready-Ok-Pending in
    let begun = rw (began.field-0-is, began.field-0-0-is, c.deref_mut.ensures.value) at began.ensures.value in
    let may = rw (sym c.in-Ok.ensures.exchange) at begun.2.0.2 in
    let by = giver_of c.in-Waiting.waiting.value.slot in
    let kept = ap giver_of (rw c.deref_mut.ensures.value at c.poll.ensures.slot) in
    let same : giver_of c.in-Ok.pending.slot ≡ by = (rw c.deref-in-Ready-Ok-Pending.ensures at c.in-Ok.ensures.giver) ∙ kept in
    rw c.in-Waiting.is
    (given_at_once g.A.Content.Default.is_default (IsGivenBy g.A.Answers.number_of g.A.Answers.gives by)
    (IsForwardedBy g.A.Answers.number_of g.A.Answers.forwards by) g.A.Exchange.Future.gives
    _ _ begun.0 begun.1 begun.2.0.0 begun.2.0.1 c.in-Ok.pending.exchange.value may c.poll-polled.result
    (by_same_at_once g.A.Content.Default.is_default (IsGivenBy g.A.Answers.number_of g.A.Answers.gives)
    (IsForwardedBy g.A.Answers.number_of g.A.Answers.forwards) g.A.Exchange.Future.gives by
    (giver_of c.in-Ok.pending.slot) same c.poll-polled.result c.in-Ok.pending.exchange.value
    c.poll-polled.ensures.value))

pub returns-in-Ok-clause-same : goal.returns-in-Ok-clause-same
returns-in-Ok-clause-same g c =
    let began = c.in-Ready-Ok-Pending in
    let begun = rw (began.field-0-is, began.field-0-0-is, c.deref_mut.ensures.value) at began.ensures.value in
    let may = rw (sym c.in-Ok.ensures.exchange) at begun.2.0.2 in
    let by = giver_of c.in-Waiting.waiting.value.slot in
    let kept = ap giver_of (rw c.deref_mut.ensures.value at c.poll.ensures.slot) in
    let same : giver_of c.in-Ok.pending.slot ≡ by = (rw c.deref-in-Ready-Ok-Pending.ensures at c.in-Ok.ensures.giver) ∙ kept in
    rw c.in-Waiting.is
    (given_later g.A.Content.Default.is_default (IsGivenBy g.A.Answers.number_of g.A.Answers.gives by)
    (IsForwardedBy g.A.Answers.number_of g.A.Answers.forwards by) g.A.Exchange.Future.gives
    _ _ begun.0 begun.1 begun.2.0.0 begun.2.0.1 c.in-Ok.pending.exchange.value may c.poll-polled.result _
    (by_same_later g.A.Content.Default.is_default (IsGivenBy g.A.Answers.number_of g.A.Answers.gives)
    (IsForwardedBy g.A.Answers.number_of g.A.Answers.forwards) g.A.Exchange.Future.gives by
    (giver_of c.in-Ok.pending.slot) same c.poll-polled.result c.in-Ok.pending.exchange.value _
    c.poll-polled.ensures.same))

pub returns-in-Pending-clause-same : goal.returns-in-Pending-clause-same
returns-in-Pending-clause-same g c = rw c.in-Pending.is c.poll-in-Pending.ensures.same
