use Rattle.std.proofs.Common.{All, rules, ap, sym, subst, ◌∙◌}
use Rattle.std.specs.Str.{IsUtf8}
use Rattle.request_data.specs.Inner.Plain.{IsPlain}
use Rattle.request_data.proofs.DecodedLemmas.{spaces_utf8, text_plain}
use Rattle.request_data.proofs.query_data.decoded_string.Goals as goal

pub from_utf8_unchecked-requires : goal.from_utf8_unchecked-requires
from_utf8_unchecked-requires c =
    let encoded = c.args.encoded.now in
    let plain : All IsPlain encoded = search rules in
    subst IsUtf8 (sym c.in_ok-bytes.ensures) (spaces_utf8 encoded plain)

pub returns-then-is_plain : goal.returns-then-is_plain
returns-then-is_plain c =
    let encoded = c.args.encoded.now in
    let plain : All IsPlain encoded = search rules in
    ap (λ v. v.items) c.from_utf8_unchecked.ensures.value ∙ c.in_ok-bytes.ensures ∙ text_plain encoded plain
