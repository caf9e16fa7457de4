use Rattle.std.proofs.lemmas.Result.{IfOk-weaker}
use Rattle.proxy_client.proofs.forwarder.ForwarderForwards.exchange.Goals as goal

pub returns-clause-sends : goal.returns-clause-sends
returns-clause-sends g c = IfOk-weaker c.exchange.result _ _
    (λ exchange (start, stage, sent, builder, turns). (c.in_ok-elsewhere.elsewhere, start, stage, sent))
    c.exchange.ensures.start

pub returns-clause-reaches : goal.returns-clause-reaches
returns-clause-reaches g c = IfOk-weaker c.exchange.result _ _
    (λ exchange start. (
      c.address_of.result,
      c.address_of.ensures,
      rw c.in_ok-elsewhere.was at c.connect.ensures.elsewhere,
    ))
    c.exchange.ensures.start
