-- The conditions so far, and those of the parameters that are left, give the whole.
use Rattle.std.proofs.Common.{◌≡◌, ◌++◌, drop, map}
use Rattle.match_difference.specs.declared.condition.Condition.TheVariants as condition
use Rattle.match_difference.proofs.conditions.push_each_parameter.Given as goal

abbrev pub invariant-loop-matcher : goal.invariant-loop-matcher
invariant-loop-matcher l =
    l.list.items ++ map (λ m. condition.PathParameter l.template m) (drop l.matcher-index l.parameters)
    ≡ l.initial.list.items ++ map (λ m. condition.PathParameter l.template m) l.parameters
