use Rattle.std.proofs.Common.{◌≡◌, ◌++◌, length, map, reverse}
use Rattle.template_tags.specs.Inner.Pieces.{piece_arguments}
use Rattle.template_tags.specs.Inner.Views.{read_view, pieces_view}
use Rattle.template_tags.proofs.calls.arguments.Given as goal

abbrev pub invariant-loop-piece : goal.invariant-loop-piece
invariant-loop-piece l =
    piece_arguments (reverse l.levels) (pieces_view l.initial.pieces.items)
    ≡ map read_view l.arguments.items ++ piece_arguments (reverse l.levels) (pieces_view l.pieces.items)

abbrev pub decreases-loop-piece : goal.decreases-loop-piece
decreases-loop-piece l = length l.pieces.items
