use Rattle.std.proofs.Common.{◌≡◌, ℕ, ◌∷◌, ◌∙◌, sym, ap, arith}
use Rattle.shared_book.proofs.NumberLemmas.{far_first, near_first, none_left}
use Rattle.shared_book.proofs.numbers.NumbersLeft.next.Goals as goal

pub returns-in_default : goal.returns-in_default
returns-in_default c =
    sym c.self.view_is ∙ none_left c.self.inside.before c.self.inside.steps.now c.self.inside.far.now
    (omega (arith, c.in_default.ensures.cases))

pub returns-then-step-eq0 : goal.returns-then-step-eq0
returns-then-step-eq0 c =
    sym c.self.view_is ∙ far_first c.self.inside.before c.in-Some.step.now c.in-Some-split_first.number.now
    c.self.inside.steps.now _ c.self.inside.far.now _ c.in-Some.ensures.cases.0 (omega (arith, c.if-step-eq0.true))
    c.in-Some-split_first.ensures.cases.0

pub returns : goal.returns
returns c =
    let step : c.in-Some.step.now ≡ c.from.result = sym c.from.ensures in
    sym c.self.view_is ∙ near_first c.self.inside.before c.from.result c.self.inside.steps.now c.in-Some.steps.now
    c.self.inside.far.now (c.in-Some.ensures.cases.0 ∙ ap (λ (s : ℕ). s ∷ c.in-Some.steps.now) step)
    (omega (arith, step, c.if-step-eq0.false))
