use Rattle.std.proofs.Common.{◌≡◌, ◌≤◌, ◌++◌, length, map}
use Rattle.template_tags.specs.Inner.Pieces.{word_pieces}
use Rattle.template_tags.specs.Inner.Scan.{item_view}
use Rattle.template_tags.specs.Inner.Views.{pieces_view}
use Rattle.template_tags.proofs.nest.words_of.Given as goal

abbrev pub invariant-loop-left : goal.invariant-loop-left
invariant-loop-left l = record {
  shorter : length l.left ≤ length l.items;
  ahead : word_pieces (map item_view l.items) ≡ word_pieces (map item_view l.left) ++ pieces_view l.pieces.items;
}

abbrev pub decreases-loop-left : goal.decreases-loop-left
decreases-loop-left l = length l.left
