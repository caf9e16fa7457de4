use Rattle.std.proofs.Common.{◌≡◌, ◌≤◌, length, map, max, reverse}
use Rattle.template_tags.specs.Inner.Pieces.{greatest}
use Rattle.template_tags.specs.Inner.Views.{piece_view}
use Rattle.template_tags.proofs.nest.greatest_height.Given as goal

abbrev pub invariant-loop-left : goal.invariant-loop-left
invariant-loop-left l = record {
  shorter : length l.left ≤ length l.pieces;
  ahead : greatest (map piece_view (reverse l.pieces)) ≡ max l.greatest (greatest (map piece_view (reverse l.left)));
}

abbrev pub decreases-loop-left : goal.decreases-loop-left
decreases-loop-left l = length l.left
