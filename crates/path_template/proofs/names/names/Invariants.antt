use Rattle.std.proofs.Common.{◌≡◌, ◌++◌, map, length}
use Rattle.path_template.specs.Template.{piece_of, names_of}
use Rattle.path_template.specs.Inner.Walks.{left_of}
use Rattle.path_template.proofs.names.names.Given as goal

abbrev pub invariant-loop-segment : goal.invariant-loop-segment
invariant-loop-segment l =
    names_of (map piece_of (left_of l.segments))
    ≡ map (λ name. name.now) l.names.items ++ names_of (map piece_of (left_of l.left))

abbrev pub decreases-loop-segment : goal.decreases-loop-segment
decreases-loop-segment l = length (left_of l.left)
