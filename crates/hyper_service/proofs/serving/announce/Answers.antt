use Rattle.std.proofs.Common.{◌∙◌}
use Rattle.hyper_service.proofs.Announced.{announces, announces_nothing}
use Rattle.hyper_service.proofs.serving.announce.Goals as goal

pub returns-in_err-line : goal.returns-in_err-line
returns-in_err-line g c =
    announces_nothing c.from_residual-in_err-line.result (g.O.Write.contents c.args.out.now)
    c.from_residual-in_err-line.ensures.0

pub returns : goal.returns
returns g c =
    let holds = g.O.Write.contents in
    announces c.flush.result (holds c.args.out.now) (holds c.put.new.out) (holds c.flush.new.self)
    c.in_ok-address.address c.as_bytes.result.now (c.as_bytes.ensures.value ∙ c.in_ok-line.ensures.ok)
    c.in_ok-put.ensures c.flush.ensures.bytes
