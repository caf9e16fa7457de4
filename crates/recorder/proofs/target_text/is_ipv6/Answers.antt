use Rattle.std.specs.Net.Grammar.{IsIpv6Text}
use Rattle.recorder.proofs.TargetLemmas.{is_read}
use Rattle.recorder.proofs.target_text.is_ipv6.Goals as goal

pub returns : goal.returns
returns c =
    let parsed = rw c.as_bytes.ensures.value at c.parse_ascii.ensures in
    rw c.is_ok.ensures.value (is_read IsIpv6Text c.args.text.now c.parse_ascii.result parsed)
