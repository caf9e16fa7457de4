use Rattle.std.proofs.Common.{◌++◌, ◌∙◌, ap, subst}
use Rattle.std.proofs.lemmas.Result.{IfOk-weaker}
use Rattle.mapping_commands.specs.Inner.Totals.{AreTotals}
use Rattle.command_output.specs.Lines.{numbers_text}
use Rattle.mapping_commands.proofs.Totals.{line_of}
use Rattle.response_json.specs.Draft.{values_of, body_templates}
use Rattle.mapping_commands.proofs.check.budget_line.Goals as goal

pub returns : goal.returns
returns c =
    let total = c.in_ok-total.total in
    let totals = subst (λ hs.
    AreTotals (values_of hs ++ body_templates c.args.body.now) total.steps.items total.bytes.items)
    c.as_slice.ensures.value c.in_ok-total.ensures in
    IfOk-weaker c.format.result _ _ (λ line is.
    line_of c.args.number (values_of c.args.headers.now ++ body_templates c.args.body.now) total.steps.items
    total.bytes.items _ _ _ totals
    (c.in_ok-steps.ensures ∙ ap numbers_text c.as_slice-2.ensures.value)
    (c.in_ok-bytes.ensures ∙ ap numbers_text c.as_slice-3.ensures.value) is) c.format.ensures.ok
