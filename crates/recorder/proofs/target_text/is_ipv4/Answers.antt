use Rattle.std.specs.Net.Grammar.{IsIpv4Text}
use Rattle.recorder.proofs.TargetLemmas.{is_read}
use Rattle.recorder.proofs.target_text.is_ipv4.Goals as goal

pub returns : goal.returns
returns c =
    let parsed = rw c.as_bytes.ensures.value at c.parse_ascii.ensures in
    rw c.is_ok.ensures.value (is_read IsIpv4Text c.args.host.now c.parse_ascii.result parsed)
