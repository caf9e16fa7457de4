use Rattle.proxy_client.proofs.AddressLemmas.{not_host}
use Rattle.proxy_client.proofs.address.ip_of.Goals as goal

pub returns-in_err-bracketed_ip-in-Err : goal.returns-in_err-bracketed_ip-in-Err
returns-in_err-bracketed_ip-in-Err c =
    rw c.from_residual.ensures (not_host c.args.host.now (λ named. let told = rw named at c.if-eq.ensures in cc)
    (rw c.as_bytes.ensures.value at c.in-Err.ensures) c.in_err-bracketed_ip-in-Err.ensures)
