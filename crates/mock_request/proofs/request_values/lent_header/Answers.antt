use Rattle.std.proofs.Common.{sym, ◌∙◌, ap, ◌≡◌}
use Rattle.std.specs.Prelude.{Some}
use Rattle.std.specs.Option.{option_map}
use Rattle.std.specs.Str.Lossy.{utf8_lossy}
use Rattle.std.proofs.lemmas.Str.{utf8_lossy-IsUtf8}
use Rattle.std.proofs.lemmas.Option.{slice_get-map}
use Rattle.mock_request.specs.HeaderFields.{header_pair}
use Rattle.mock_request.proofs.HeaderLemmas.{text_at}
use Rattle.mock_request.proofs.request_values.lent_header.Goals as goal

pub from_utf8_unchecked-requires : goal.from_utf8_unchecked-requires
from_utf8_unchecked-requires c =
    text_at c.args.snapshot.now.headers c.args.index _ c.requires c.in_ok-name.ensures.value

pub returns : goal.returns
returns c =
    let text : utf8_lossy c.in_ok-name.value.now ≡ c.from_utf8_unchecked.result.now =
    ap utf8_lossy (sym c.from_utf8_unchecked.ensures)
    ∙ utf8_lossy-IsUtf8 c.from_utf8_unchecked.result.now c.from_utf8_unchecked.utf8 in
    ap (λ t. Some (c.in_ok-name.name.now, t)) (sym text)
    ∙ ap (option_map header_pair) c.in_ok-name.ensures.value
    ∙ sym (slice_get-map header_pair c.args.snapshot.now.headers c.args.index)
