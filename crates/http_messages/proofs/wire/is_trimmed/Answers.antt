use Rattle.std.proofs.Common.{◌≡◌, length, ap, sym, ◌∙◌, arith}
use Rattle.std.proofs.lemmas.Bool.Decides.{nat_tests}
use Rattle.http_messages.specs.Wire.{without_blanks, without_end_blanks, without_front_blanks}
use Rattle.http_messages.proofs.BlankLemmas.{nothing_taken}
use Rattle.http_messages.proofs.wire.is_trimmed.Goals as goal

pub returns : goal.returns
returns c = λ all.
    let bytes = c.args.value.now.bytes in
    let front = c.without_front_blanks.ensures ∙ ap without_front_blanks c.as_bytes.ensures.value in
    let trimmed : c.without_end_blanks.result.now ≡ without_blanks bytes =
    c.without_end_blanks.ensures ∙ ap without_end_blanks front in
    let same : length c.without_end_blanks.result.now ≡ c.len.result = grind (arith, nat_tests, all) in
    nothing_taken bytes (sym (ap length trimmed) ∙ same ∙ c.len.ensures)
