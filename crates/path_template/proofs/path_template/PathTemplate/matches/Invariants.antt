use Rattle.std.proofs.Common.{◌≡◌, is_some, length}
use Rattle.path_template.specs.Matching.{bindings_of}
use Rattle.path_template.specs.Inner.Walks.{left_of, bound_by}
use Rattle.path_template.proofs.path_template.PathTemplate.matches.Given as goal

abbrev pub invariant-loop-rest : goal.invariant-loop-rest
invariant-loop-rest l = is_some (bindings_of l.self l.path) ≡ is_some (bound_by l.walk)

abbrev pub decreases-loop-rest : goal.decreases-loop-rest
decreases-loop-rest l = length (left_of l.walk.template)
