use Rattle.std.proofs.Common.{◌≡◌, ◌∙◌, sym, rules, tests, of_calls}
use Rattle.std.proofs.lemmas.Bool.{OnTrue_from}
use Rattle.std.proofs.lemmas.Iterator.Search.{all_from_yields_List}
use Rattle.std.proofs.lemmas.Iterator.{YieldsList-from_slice}
use Rattle.std.specs.List.{list_all}
use Rattle.template_machine.proofs.Escapes.{is_single, escaped_plain}
use Rattle.template_machine.proofs.escape.is_plain.Goals as goal

pub returns : goal.returns
returns c =
    let text = c.args.text.now in
    let all : c.all.result ≡ list_all is_single text =
    all_from_yields_List is_single _ _ c.all.result c.all.ensures.ran
    (YieldsList-from_slice text cc) (λ x b q k. search (rules, tests, of_calls)) in
    OnTrue_from c.all.result _ (λ plain. escaped_plain text (sym all ∙ plain))
