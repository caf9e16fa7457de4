use Rattle.http_messages.proofs.AsSentLemmas.{as_sent}
use Rattle.http_messages.proofs.wire.are_as_sent.Goals as goal

pub returns-else-keys_len-eq0 : goal.returns-else-keys_len-eq0
returns-else-keys_len-eq0 c = λ each.
    as_sent c.args.headers.now c.keys_len.ensures.valid (c.is_each_as_sent.ensures each)
