use Rattle.std.proofs.Common.{take}
use Rattle.mapping_commands.specs.Inner.Totals.{AreTotals, IsWithin}
use Rattle.response_json.specs.Draft.{values_of}
use Rattle.mapping_commands.proofs.budgets.total_of_lines.Given as goal

abbrev pub invariant-loop-line : goal.invariant-loop-line
invariant-loop-line l = record {
  totals : AreTotals (values_of (take l.line-index l.lines)) l.total.steps.items l.total.bytes.items;
  steps : IsWithin l.line-index l.total.steps.items;
  bytes : IsWithin l.line-index l.total.bytes.items;
}
