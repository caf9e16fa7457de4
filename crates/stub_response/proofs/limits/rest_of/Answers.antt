use Rattle.std.proofs.Common.{◌≡◌, ◌≤◌, ◌<◌, ◌+◌, ◌^◌, ◌⊎◌, inl, inr, ℕ, refl, ap, ◌∙◌, arith}
use Rattle.code_rules.specs.Polynomial.{value}
use Rattle.code_rules.specs.Regions.{Budget, budget}
use Rattle.stub_response.proofs.LimitLemmas.{budget_of, keep_one_more, keep_rest, too_much, value-as_printed}
use Rattle.stub_response.specs.declared.limits.Limits.{Limits}
use Rattle.stub_response.proofs.limits.rest_of.Goals as goal

over : (limit printed taken : ℕ) → limit < 2 ^ 64 → 2 ^ 128 ≤ printed → printed ≡ taken → limit < taken
over limit printed taken p q e = omega (arith, p, q, e)

pub returns-in_err-steps_taken-clause-none : goal.returns-in_err-steps_taken-clause-none
returns-in_err-steps_taken-clause-none c =
    let limits : Limits = record { steps = c.args.steps; bytes = c.args.bytes } in
    let text = c.args.template.now in
    let program = c.program.result.now in
    let cost : Budget = budget program.code in
    let n = c.args.size in
    let known = budget_of program text c.program.ensures.source c.program.ensures.program in
    let same_steps : value c.budget.result.now.steps n ≡ value cost.steps n =
    ap (λ ps. value ps n) c.budget.ensures.steps ∙ value-as_printed cost.steps n in
    let same_bytes : value c.budget.result.now.bytes n ≡ value cost.bytes n =
    ap (λ ps. value ps n) c.budget.ensures.bytes ∙ value-as_printed cost.bytes n in
    let exceeds : (limits.steps < value cost.steps n) ⊎ (limits.bytes < value cost.bytes n) =
    elim (c.in_err-steps_taken.ensures.none.0 refl)
    as (λ _. (limits.steps < value cost.steps n) ⊎ (limits.bytes < value cost.bytes n)) [
      | inl p ↦ inl (over limits.steps _ _ c.ranges.steps.fits p same_steps)
      | inr p ↦ inr (over limits.bytes _ _ c.ranges.bytes.fits p same_bytes)
    ] in
    rw c.from_residual.ensures (λ more. too_much limits text more n cost known exceeds)

pub returns-in_err-left-clause-none : goal.returns-in_err-left-clause-none
returns-in_err-left-clause-none c =
    let limits : Limits = record { steps = c.args.steps; bytes = c.args.bytes } in
    let text = c.args.template.now in
    let program = c.program.result.now in
    let cost : Budget = budget program.code in
    let n = c.args.size in
    let known = budget_of program text c.program.ensures.source c.program.ensures.program in
    let same_steps : value c.budget.result.now.steps n ≡ value cost.steps n =
    ap (λ ps. value ps n) c.budget.ensures.steps ∙ value-as_printed cost.steps n in
    let same_bytes : value c.budget.result.now.bytes n ≡ value cost.bytes n =
    ap (λ ps. value ps n) c.budget.ensures.bytes ∙ value-as_printed cost.bytes n in
    let taken : c.in_ok-steps_taken.steps_taken ≡ value cost.steps n =
    c.in_ok-steps_taken.ensures.steps ∙ same_steps in
    let less : c.args.steps < c.in_ok-steps_taken.steps_taken = c.in_err-left.ensures.none.0 refl in
    let exceeds : limits.steps < value cost.steps n = omega (arith, less, taken) in
    rw c.from_residual-in_err-left.ensures (λ more. too_much limits text more n cost known (inl exceeds))

pub returns-in_err-left-2-clause-none : goal.returns-in_err-left-2-clause-none
returns-in_err-left-2-clause-none c =
    let limits : Limits = record { steps = c.args.steps; bytes = c.args.bytes } in
    let text = c.args.template.now in
    let program = c.program.result.now in
    let cost : Budget = budget program.code in
    let n = c.args.size in
    let known = budget_of program text c.program.ensures.source c.program.ensures.program in
    let same_steps : value c.budget.result.now.steps n ≡ value cost.steps n =
    ap (λ ps. value ps n) c.budget.ensures.steps ∙ value-as_printed cost.steps n in
    let same_bytes : value c.budget.result.now.bytes n ≡ value cost.bytes n =
    ap (λ ps. value ps n) c.budget.ensures.bytes ∙ value-as_printed cost.bytes n in
    let taken : c.in_ok-steps_taken.bytes_taken ≡ value cost.bytes n =
    c.in_ok-steps_taken.ensures.bytes ∙ same_bytes in
    let less : c.args.bytes < c.in_ok-steps_taken.bytes_taken = c.in_err-left-2.ensures.none.0 refl in
    let exceeds : limits.bytes < value cost.bytes n = omega (arith, less, taken) in
    rw c.from_residual-in_err-left-2.ensures (λ more. too_much limits text more n cost known (inr exceeds))

pub returns-clause-some : goal.returns-clause-some
returns-clause-some c =
    let limits : Limits = record { steps = c.args.steps; bytes = c.args.bytes } in
    let text = c.args.template.now in
    let program = c.program.result.now in
    let cost : Budget = budget program.code in
    let n = c.args.size in
    let known = budget_of program text c.program.ensures.source c.program.ensures.program in
    let same_steps : value c.budget.result.now.steps n ≡ value cost.steps n =
    ap (λ ps. value ps n) c.budget.ensures.steps ∙ value-as_printed cost.steps n in
    let same_bytes : value c.budget.result.now.bytes n ≡ value cost.bytes n =
    ap (λ ps. value ps n) c.budget.ensures.bytes ∙ value-as_printed cost.bytes n in
    let rest : Limits = record { steps = c.in_ok-left.field-0; bytes = c.in_ok-left-2.field-0 } in
    let taken : c.in_ok-steps_taken.steps_taken ≡ value cost.steps n =
    c.in_ok-steps_taken.ensures.steps ∙ same_steps in
    let written : c.in_ok-steps_taken.bytes_taken ≡ value cost.bytes n =
    c.in_ok-steps_taken.ensures.bytes ∙ same_bytes in
    let steps : limits.steps ≡ value cost.steps n + rest.steps =
    c.in_ok-left.ensures.some ∙ ap (λ t. t + rest.steps) taken in
    let bytes : limits.bytes ≡ value cost.bytes n + rest.bytes =
    c.in_ok-left-2.ensures.some ∙ ap (λ t. t + rest.bytes) written in
    λ more. (
      keep_one_more limits rest text more n cost known steps bytes,
      keep_rest limits rest text more n cost known steps bytes,
    )
