use Rattle.std.proofs.Common.{◌≡◌, ◌≤◌, length, map, reverse, Some}
use Rattle.template_tags.proofs.Nests.{stack_pieces, pieces_before}
use Rattle.template_tags.specs.Inner.Scan.{item_view}
use Rattle.template_tags.specs.Inner.Views.{stack_view}
use Rattle.template_tags.specs.Terms.{grouped}
use Rattle.template_tags.proofs.nest.grouped.Given as goal

abbrev pub invariant-loop-left : goal.invariant-loop-left
invariant-loop-left l = record {
  shorter : length l.left ≤ length l.items;
  ahead : pieces_before (reverse l.levels) (map item_view l.left) (Some (stack_view l.stack))
      ≡ stack_pieces (reverse l.levels) (grouped (map item_view l.items));
}

abbrev pub decreases-loop-left : goal.decreases-loop-left
decreases-loop-left l = length l.left
