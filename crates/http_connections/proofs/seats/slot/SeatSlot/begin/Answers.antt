use Rattle.http_connections.proofs.ProgressLemmas.{by_seat, sent_anew, sent_as_it_is}
use Rattle.http_connections.proofs.seats.slot.SeatSlot.begin.Goals as goal
use Rattle.http_connections.specs.Sent.{IsForwardedBy, IsGivenBy}
use Rattle.http_connections.specs.Site.{giver}

pub returns-then-goes_as_it_is : goal.returns-then-goes_as_it_is
returns-then-goes_as_it_is g c =
    let by = giver c.args.self.now in
    let given = by_seat g.A.Answers.number_of g.A.Answers.gives g.A.Answers.forwards g.A.Exchange.Future.can_poll by
    c.args.request.now _ c.begin_by-begun.new.held c.begin_by-begun.result
    (rw c.deref-3.ensures at c.begin_by-begun.ensures.ok) in
    sent_as_it_is g.A.Content.Default.is_default (IsGivenBy g.A.Answers.number_of g.A.Answers.gives by)
    (IsForwardedBy g.A.Answers.number_of g.A.Answers.forwards by) g.A.Exchange.Future.can_poll
    c.args.request.now c.begin_by-begun.result given
    (c.goes_as_it_is.ensures c.if-goes_as_it_is.true)

pub returns : goal.returns
returns g c =
    let by = giver c.args.self.now in
    let given = by_seat g.A.Answers.number_of g.A.Answers.gives g.A.Answers.forwards g.A.Exchange.Future.can_poll by
    c.args.request.now _ c.begin_by-begun.new.held c.begin_by-begun.result
    (rw c.deref-3.ensures at c.begin_by-begun.ensures.ok) in
    sent_anew g.A.Content.Default.is_default (IsGivenBy g.A.Answers.number_of g.A.Answers.gives by)
    (IsForwardedBy g.A.Answers.number_of g.A.Answers.forwards by) g.A.Exchange.Future.can_poll
    c.args.request.now c.in_ok-begun.field-0 (rw c.in_ok-begun.was at given)
    c.begun_anew.result c.begun_anew.ensures
