use Rattle.std.proofs.Common.{rules}
use Rattle.http.specs.Request.{head_of}
use Rattle.http_connections.proofs.ProgressLemmas.{begun_with}
use Rattle.http_connections.proofs.request.service.Waiting.begin.Goals as goal
use Rattle.http_connections.specs.Sent.{IsForwardedBy, IsGivenBy}
use Rattle.http_connections.specs.Site.{giver_of}

pub returns-in_default-2-clause-begun : goal.returns-in_default-2-clause-begun
returns-in_default-2-clause-begun g c =
    let site = giver_of c.args.self.now.slot in
    begun_with g.A.Content.Default.is_default (IsGivenBy g.A.Answers.number_of g.A.Answers.gives site)
    (IsForwardedBy g.A.Answers.number_of g.A.Answers.forwards site) g.A.Exchange.Future.can_poll
    (head_of c.args.self.now.request) c.args.gathered c.match-gathered.content (search rules) c.begin.result
    (search rules)
