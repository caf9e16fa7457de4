use Rattle.http_connections.proofs.Accepted.{holds_in}
use Rattle.http_connections.proofs.accept.accepting.Accepting.task.Goals as goal
use Rattle.http_connections.specs.Site.{IsConnectionOf, site_in}

pub returns-clause-made : goal.returns-clause-made
returns-clause-made g c =
    holds_in (λ task. task.connection.value) (IsConnectionOf g.M.Connects.makes c.args.self.now.connects
    c.args.socket (site_in c.args.self.now.pool)) c.in-Some.connection
    (c.in_ok-cell.number, rw (c.cell.ensures.connects, c.cell.ensures.pool) at c.in-Some.ensures) c.new.result c.new.ensures
