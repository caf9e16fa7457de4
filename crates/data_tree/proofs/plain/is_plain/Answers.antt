use Rattle.std.proofs.Common.{length, subst}
use Rattle.std.specs.Bool.{OnTrue}
use Rattle.json.specs.Written.{PlainBetween}
use Rattle.json.proofs.Printed.Plain.{escape_on_plain}
use Rattle.data_tree.proofs.plain.is_plain.Goals as goal

pub returns-then-bytes-lt16 : goal.returns-then-bytes-lt16
returns-then-bytes-lt16 c =
    escape_on_plain c.plain_short.result c.args.text.now
    (subst (λ text. OnTrue c.plain_short.result (PlainBetween text 0 (length text))) c.as_bytes-bytes.ensures.value
    c.plain_short.ensures)

pub returns-else-bytes-lt16 : goal.returns-else-bytes-lt16
returns-else-bytes-lt16 c =
    escape_on_plain c.plain_long.result c.args.text.now
    (subst (λ text. OnTrue c.plain_long.result (PlainBetween text 0 (length text))) c.as_bytes-bytes.ensures.value
    c.plain_long.ensures)
