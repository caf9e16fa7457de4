-- The conditions so far, and those of the matchers that are left, give the whole.
use Rattle.std.proofs.Common.{◌≡◌, ◌++◌, drop, map}
use Rattle.match_difference.specs.declared.condition.Condition.TheVariants as condition
use Rattle.match_difference.proofs.conditions.push_values.Given as goal

abbrev pub invariant-loop-matcher : goal.invariant-loop-matcher
invariant-loop-matcher l =
    l.list.items ++ map (λ m. condition.Value l.source m) (drop l.matcher-index l.matchers)
    ≡ l.initial.list.items ++ map (λ m. condition.Value l.source m) l.matchers
