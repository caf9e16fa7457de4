use Rattle.std.proofs.Common.{rules}
use Rattle.http_connections.proofs.serve_io.run.Goals as goal

pub returns-in-Ok-Ok : goal.returns-in-Ok-Ok
returns-in-Ok-Ok g c = (c.in-Some.connection, c.in-Some.ensures, search rules)
