use Rattle.std.proofs.Common.{◌≡◌, drop, ◌∙◌}
use Rattle.code_rules.specs.Costs.{top}
use Rattle.code_verifier.specs.Inner.Slots.{bounds_of}
use Rattle.code_verifier.proofs.BoundFacts.{bound-there, no-bound}
use Rattle.code_verifier.proofs.effect.plus_bound.Goals as goal

pub returns-in-None : goal.returns-in-None
returns-in-None c =
    let e : c.zero.result ≡ top (drop c.args.depth (bounds_of c.args.stack.now)) =
    c.zero.ensures ∙ no-bound c.args.depth c.args.stack.now c.in-None.ensures in
    rw e at c.plus-in-None.ensures

pub returns-in-Some : goal.returns-in-Some
returns-in-Some c =
    rw (bound-there c.args.depth c.args.stack.now c.in-Some.ensures.0 c.in-Some.slot.now c.in-Some.ensures.1)
    at c.plus-in-Some.ensures
