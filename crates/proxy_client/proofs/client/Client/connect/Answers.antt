use Rattle.std.proofs.lemmas.Result.{IfOk-weaker}
use Rattle.proxy_client.proofs.client.Client.connect.Goals as goal

pub returns-clause-start : goal.returns-clause-start
returns-clause-start g c = IfOk-weaker c.exchange.result _ _
    (λ exchange (start, stage, sent, builder, turns). (c.connect-connect.result, start, stage, sent, builder, turns))
    c.exchange.ensures.start
