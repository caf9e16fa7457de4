use Rattle.std.proofs.Common.{◌≡◌, option_and_then, option_copied, length}
use Rattle.std.specs.Option.{option_or}
use Rattle.path_template.specs.Matching.{binding_of, value_of}
use Rattle.path_template.specs.Inner.Walks.{left_of, bound_by}
use Rattle.path_template.proofs.path_template.PathTemplate.binding.Given as goal

abbrev pub invariant-loop-found : goal.invariant-loop-found
invariant-loop-found l =
    binding_of l.self l.path l.name
    ≡ option_and_then (λ later. option_or (option_copied l.found) (value_of l.name later)) (bound_by l.walk)

abbrev pub decreases-loop-found : goal.decreases-loop-found
decreases-loop-found l = length (left_of l.walk.template)
