use Rattle.std.proofs.Common.{◌≡◌, ◌+◌, List, ◌∷◌, ◌++◌, [], take, sym, ap, ◌∙◌, subst, arith}
use Rattle.std.proofs.lemmas.List.{map-append, take_more}
use Rattle.mapping_model.specs.declared.header_lines.HeaderLine.{HeaderLine}
use Rattle.template_tree.specs.Source.{Source}
use Rattle.mapping_commands.specs.Inner.Totals.{AreTotals}
use Rattle.mapping_commands.proofs.Totals.{one_more}
use Rattle.response_json.specs.Draft.{values_of}
use Rattle.mapping_commands.proofs.budgets.total_of_lines.Goals as goal

pub loop-line-preserved : goal.loop-line-preserved
loop-line-preserved c =
    let lines = c.args.lines.now in
    let i = c.loop-line.line-index in
    let line = c.line-item.result in
    let old = c.loop-line.total in
    let new = c.in_ok-total.total in
    let more : take (i + 1) lines ≡ take i lines ++ line ∷ [] =
    take_more lines i line (omega arith) ∙ ap (λ l. take i lines ++ l ∷ []) (sym c.line-item.is) in
    let templates : values_of (take (i + 1) lines) ≡ values_of (take i lines) ++ line.value ∷ [] =
    ap (λ (ls : List (HeaderLine Source)). values_of ls) more
    ∙ map-append (λ (l : HeaderLine Source). l.value) (take i lines) (line ∷ []) in
    record {
      totals = subst (λ ts. AreTotals ts new.steps.items new.bytes.items) (sym templates)
          (one_more (values_of (take i lines)) line.value old.steps.items old.bytes.items
          new.steps.items new.bytes.items
          c.program.result.now c.loop-line.invariant.totals c.program.ensures.source c.program.ensures.program
          c.in_ok-total.ensures.steps c.in_ok-total.ensures.bytes);
      steps = c.in_ok-total.ensures.steps_grow i c.loop-line.invariant.steps;
      bytes = c.in_ok-total.ensures.bytes_grow i c.loop-line.invariant.bytes;
    }
