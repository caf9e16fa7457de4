use Rattle.std.proofs.Common.{◌≡◌, ◌++◌, option_map, length}
use Rattle.mock_request.specs.Values.{pairs_of}
use Rattle.path_template.specs.Matching.{bindings_of}
use Rattle.path_template.specs.Inner.Walks.{left_of, bound_by}
use Rattle.path_template.proofs.path_template.PathTemplate.bindings.Given as goal

abbrev pub invariant-loop-bindings : goal.invariant-loop-bindings
invariant-loop-bindings l =
    bindings_of l.self l.path ≡ option_map (λ later. pairs_of l.bindings.items ++ later) (bound_by l.walk)

abbrev pub decreases-loop-bindings : goal.decreases-loop-bindings
decreases-loop-bindings l = length (left_of l.walk.template)
