use Rattle.mapping_commands.proofs.Totals.{one_more}
use Rattle.response_json.specs.Draft.{values_of}
use Rattle.mapping_commands.proofs.budgets.total_of.Goals as goal

pub returns-in_ok-total_with-in-Text : goal.returns-in_ok-total_with-in-Text
returns-in_ok-total_with-in-Text c =
    let old = c.in_ok-total.total in
    let new = c.in_ok-total_with-in-Text.field-0 in
    rw c.in-Text.is
    (one_more (values_of c.args.headers.now) c.in-Text.template old.steps.items old.bytes.items new.steps.items
    new.bytes.items c.program.result.now c.in_ok-total.ensures.total c.program.ensures.source c.program.ensures.program
    c.in_ok-total_with-in-Text.ensures.steps c.in_ok-total_with-in-Text.ensures.bytes)
