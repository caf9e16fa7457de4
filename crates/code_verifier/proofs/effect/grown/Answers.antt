use Rattle.std.proofs.Common.{take, sym, ◌∙◌}
use Rattle.std.specs.Prelude.{if◌then◌else◌}
use Rattle.code_rules.specs.Bounds.{at_most, times_bound, sum_of}
use Rattle.code_verifier.specs.Inner.Slots.{bounds_of}
use Rattle.code_verifier.proofs.BoundFacts.{within-left}
use Rattle.code_verifier.proofs.effect.grown.Goals as goal

pub returns-in-None : goal.returns-in-None
returns-in-None c =
    within-left
    (times_bound c.args.growth.times (sum_of (take (if c.args.has_two then 2 else 1) (bounds_of c.args.stack.now))))
    (at_most c.args.growth.plus) (sym c.in-None.is ∙ c.in_ok-scaled.ensures)
