use Rattle.std.proofs.Common.{rules, ◌≡◌, length, ap, sym, ◌∙◌, subst}
use Rattle.std.specs.Prelude.{IsTrue}
use Rattle.http_header.specs.FieldValue.{IsFieldValue}
use Rattle.http_header.specs.Token.{is_value_byte}
use Rattle.http_messages.specs.Wire.{without_blanks, without_end_blanks, without_front_blanks}
use Rattle.http_messages.proofs.BlankLemmas.{nothing_taken, all_left}
use Rattle.http_messages.proofs.wire.sent_value.Goals as goal

pub returns-then-trimmed-len : goal.returns-then-trimmed-len
returns-then-trimmed-len c =
    let bytes = c.args.value.now.bytes in
    let front = c.without_front_blanks.ensures ∙ ap without_front_blanks c.as_bytes.ensures.value in
    let trimmed : c.without_end_blanks-trimmed.result.now ≡ without_blanks bytes =
    c.without_end_blanks-trimmed.ensures ∙ ap without_end_blanks front in
    let same : without_blanks bytes ≡ bytes =
    nothing_taken bytes (sym (ap length trimmed) ∙ c.if-trimmed-len.true ∙ c.len.ensures) in
    rw same (search rules)

pub from_known_valid-made-requires : goal.from_known_valid-made-requires
from_known_valid-made-requires c =
    let bytes = c.args.value.now.bytes in
    let front = c.without_front_blanks.ensures ∙ ap without_front_blanks c.as_bytes.ensures.value in
    let copied : c.in_ok-copy_from_slice.field-0 ≡ without_blanks bytes =
    c.in_ok-copy_from_slice.ensures ∙ c.without_end_blanks-trimmed.ensures ∙ ap without_end_blanks front in
    subst IsFieldValue (sym copied) (all_left (λ b. IsTrue (is_value_byte b)) bytes c.as_bytes.ensures.valid)
