use Rattle.proxy_client.proofs.AddressLemmas.{not_bracketed}
use Rattle.proxy_client.proofs.address.bracketed_ip.Goals as goal

pub returns-in-Err : goal.returns-in-Err
returns-in-Err c =
    not_bracketed c.args.host.now c.in_ok-in_brackets.field-0.now c.in_ok-in_brackets.ensures
    (rw c.as_bytes.ensures.value at c.in-Err.ensures)
