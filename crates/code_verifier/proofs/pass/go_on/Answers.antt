use Rattle.std.proofs.Common.{sym, ap, ◌∙◌}
use Rattle.template_code.specs.Instructions.{pushes, slots_after}
use Rattle.code_verifier.specs.Inner.Slots.{bounds_of, bound_each}
use Rattle.code_verifier.proofs.BoundFacts.{bound-some, top-each}
use Rattle.code_verifier.proofs.pass.go_on.Goals as goal

pub returns-clause-bounds : goal.returns-clause-bounds
returns-clause-bounds c = λ fit.
    let code = c.args.code.now in
    let i = c.args.instr in
    let bounds = bounds_of c.args.known.now.stack in
    let is = (bound-some _ _ (sym c.in-Some.is ∙ c.in_ok-pushed_bound.ensures)).1 in
    c.in_ok-apply_effect.ensures.bounds
    ∙ ap (λ bs. slots_after i bs bounds) (ap (λ b. bound_each b (pushes i)) is ∙ top-each code i bounds)
