-- The conditions so far, and those of the patterns that are left, give the whole.
use Rattle.std.proofs.Common.{◌≡◌, ◌++◌, drop, map}
use Rattle.match_difference.specs.declared.condition.Condition.TheVariants as condition
use Rattle.match_difference.proofs.conditions.push_body.Given as goal

abbrev pub invariant-loop-pattern : goal.invariant-loop-pattern
invariant-loop-pattern l =
    l.list.items ++ map (λ p. condition.Body p) (drop l.pattern-index l.patterns)
    ≡ l.initial.list.items ++ map (λ p. condition.Body p) l.patterns
