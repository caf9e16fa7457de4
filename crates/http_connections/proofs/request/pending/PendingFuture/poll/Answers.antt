use Rattle.std.proofs.Common.{rules}
use Rattle.http_connections.proofs.Exchanges.{sent_or_refused}
use Rattle.http_connections.proofs.request.pending.PendingFuture.poll.Goals as goal
use Rattle.http_connections.proofs.request.pending.PendingFuture.poll.Goals.{in_default-via-in-Err+in-Broken-1}
use Rattle.http_connections.proofs.request.pending.PendingFuture.poll.Goals.{in_default-via-in-Ok-1}
use Rattle.http_connections.specs.Sent.{IsGivenBy}
use Rattle.http_connections.specs.Site.{giver_of}

pub returns-in_default-clause-value : goal.returns-in_default-clause-value
returns-in_default-clause-value g c = λ message by.
    let finished = rw c.deref.ensures at c.finish.ensures in
    let sent = sent_or_refused g.A.Content.Default.is_default
    (IsGivenBy g.A.Answers.number_of g.A.Answers.gives (giver_of c.args.self.now.slot)) message c.finish.result
    (finished message by.0 by.1 (by.2 _ (search rules))) in
    elim c.in_default-1.branch [
      | in_default-via-in-Err+in-Broken-1 w ↦ rw w.finished-is tt
      | in_default-via-in-Ok-1 w ↦ rw w.finished-is sent
    ]
