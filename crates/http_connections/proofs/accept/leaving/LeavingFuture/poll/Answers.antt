use Rattle.http_connections.proofs.accept.leaving.LeavingFuture.poll.Goals as goal

pub returns-in-Pending-clause-same : goal.returns-in-Pending-clause-same
returns-in-Pending-clause-same g c = λ x given. rw c.in-Some.is (c.in-Pending.ensures.same x given)
