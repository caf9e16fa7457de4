use Rattle.std.proofs.Common.{◌≡◌, IfOk, subst}
use Rattle.code_rules.specs.Bounds.{Bound, times_bound}
use Rattle.template_code.specs.declared.limits.TheConstants.{MAX_ESCAPE_GROWTH}
use Rattle.code_verifier.specs.Inner.Limited.{bound_within}
use Rattle.code_verifier.specs.Inner.Slots.{bounds_of}
use Rattle.code_verifier.proofs.BoundFacts.{one-top}
use Rattle.code_verifier.proofs.effect.pushed_bound.Goals as goal

pub returns-in-Show : goal.returns-in-Show
returns-in-Show c =
    let P : Bound → Type 0 = λ b. IfOk c.argument_bounds.result (λ sum. sum ≡ bound_within b) in
    rw c.in-Show.is (subst P (one-top (bounds_of c.args.stack.now)) c.argument_bounds.ensures)

pub returns-in-Escape : goal.returns-in-Escape
returns-in-Escape c =
    let P : Bound → Type 0 = λ b.
    IfOk c.scaled.result (λ product. product ≡ bound_within (times_bound MAX_ESCAPE_GROWTH b)) in
    rw c.in-Escape.is (subst P (one-top (bounds_of c.args.stack.now)) c.scaled.ensures)
