use Rattle.std.proofs.Common.{ap}
use Rattle.http_connections.proofs.Accepted.{made_for}
use Rattle.http_connections.proofs.accept.connects.connection.Goals as goal
use Rattle.http_connections.specs.Site.{giver_of}

pub returns : goal.returns
returns g c =
    made_for g.M.Connects.makes c.args.connects.now c.args.io (giver_of c.args.slot) c.connect.result _
    (ap giver_of c.new-service.ensures) c.connect.ensures
