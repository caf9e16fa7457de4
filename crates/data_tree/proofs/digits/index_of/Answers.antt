use Rattle.std.proofs.Common.{◌≡◌, ◌∙◌, sym, ap, true}
use Rattle.std.specs.Result.{result_ok}
use Rattle.data_tree.specs.Digits.{is_index}
use Rattle.data_tree.proofs.Indexes.{index_parses, index_of_index}
use Rattle.data_tree.proofs.digits.index_of.Goals as goal

pub returns-then-is_index : goal.returns-then-is_index
returns-then-is_index c =
    let s = c.args.text.now in
    let is : is_index s ≡ true = sym c.if-is_index.ensures in
    let read = index_parses s c.parse.result is c.parse.ensures.value.0 in
    c.ok.ensures.value ∙ ap result_ok read ∙ sym (index_of_index s is)
