use Rattle.std.proofs.Common.{drop, sym, ◌∙◌}
use Rattle.code_rules.specs.Bounds.{at_most, plus_bound}
use Rattle.code_rules.specs.Costs.{top}
use Rattle.code_verifier.specs.Inner.Slots.{bounds_of}
use Rattle.code_verifier.proofs.BoundFacts.{two-bounds, within-right}
use Rattle.code_verifier.proofs.effect.argument_bounds.Goals as goal

pub returns-in-None : goal.returns-in-None
returns-in-None c =
    let bounds = bounds_of c.args.stack.now in
    rw (c.if-not-has_two.false, two-bounds bounds)
    (within-right (top bounds) (plus_bound (top (drop 1 bounds)) (at_most 0))
    (rw c.zero-empty.ensures at (sym c.in-None.is ∙ c.in_ok-plus_bound.ensures)))
