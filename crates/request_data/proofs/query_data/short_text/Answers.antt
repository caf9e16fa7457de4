use Rattle.std.proofs.Common.{All, rules, sym, subst, ◌∙◌}
use Rattle.std.specs.Str.{IsUtf8}
use Rattle.request_data.specs.Inner.Plain.{IsPlain}
use Rattle.request_data.proofs.DecodedLemmas.{begun_plain, begun_spaced, spaces_utf8, text_plain}
use Rattle.request_data.proofs.query_data.short_text.Goals as goal

pub from_utf8_unchecked-text-requires : goal.from_utf8_unchecked-text-requires
from_utf8_unchecked-text-requires c =
    let encoded = c.args.encoded.now in
    let room = c.begun_by-room.result in
    let plain : All IsPlain room = search rules in
    let spaced = begun_spaced encoded room c.put_spaces.new.bytes c.begun_by-room.ensures c.put_spaces.ensures in
    subst IsUtf8 (sym spaced) (spaces_utf8 encoded (begun_plain encoded room c.begun_by-room.ensures plain))

pub returns : goal.returns
returns c =
    let encoded = c.args.encoded.now in
    let room = c.begun_by-room.result in
    let plain : All IsPlain room = search rules in
    let spaced = begun_spaced encoded room c.put_spaces.new.bytes c.begun_by-room.ensures c.put_spaces.ensures in
    c.in_ok-from_str.ensures ∙ c.from_utf8_unchecked-text.ensures ∙ spaced
    ∙ text_plain encoded (begun_plain encoded room c.begun_by-room.ensures plain)
