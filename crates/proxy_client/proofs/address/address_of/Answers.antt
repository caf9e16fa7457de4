use Rattle.proxy_client.proofs.address.address_of.Goals as goal

pub unreachable-requires : goal.unreachable-requires
unreachable-requires c =
    let target = rw c.as_str-text.ensures.value at c.as_str-text.ensures.target in
    c.in-None.ensures (rw c.host.ensures target.host)
