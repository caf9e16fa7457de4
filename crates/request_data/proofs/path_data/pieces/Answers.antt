use Rattle.std.proofs.Common.{ap, ◌∙◌, lit<}
use Rattle.std.proofs.lemmas.Iterator.Consumers.{YieldsList-end}
use Rattle.std.proofs.lemmas.Iterator.Splits.{YieldsList-from_str_split}
use Rattle.std.specs.Str.Iter.{split_text, split_has_more, split_pattern}
use Rattle.data_tree.specs.Tree.{items_of}
use Rattle.request_data.specs.Grouped.{texts}
use Rattle.mock_request.specs.Target.{slash}
use Rattle.request_data.proofs.PathLemmas.{texts_from_pieces}
use Rattle.request_data.proofs.path_data.pieces.Goals as goal

pub returns : goal.returns
returns c =
    let same = c.into_iter-piece-iterator.ensures.into_iter_gives in
    let split = c.split-piece-items.ensures in
    let given =
    YieldsList-from_str_split slash c.args.rest.now (lit< tt) (ap split_text same ∙ split.text)
    (ap split_has_more same ∙ split.has_more) (ap split_pattern same ∙ split.pattern) in
    let end =
    YieldsList-end given c.loop-piece.yielded _ c.loop-piece.yielded_by _ _ c.in-None.is c.next.ensures.steps in
    ap items_of c.loop-piece.invariant ∙ texts_from_pieces c.loop-piece.yielded ∙ ap texts end.0
