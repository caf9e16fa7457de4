use Rattle.std.proofs.Common.{◌<◌, arith}
use Rattle.shared_book.proofs.NumberLemmas.{added_far, added_near}
use Rattle.shared_book.proofs.numbers.push.Goals as goal

pub returns-then-step-eq0-clause-packed : goal.returns-then-step-eq0-clause-packed
returns-then-step-eq0-clause-packed c =
    (added_far c.args.steps.now.items c.args.far.now.items _ _ c.args.last c.step_to-step.result c.args.number
    c.requires.packed c.push_reserved.ensures.items (omega (arith, c.if-step-eq0.true))
    c.push_reserved-then-step-eq0.ensures.items).0

pub returns-then-step-eq0-clause-numbers : goal.returns-then-step-eq0-clause-numbers
returns-then-step-eq0-clause-numbers c =
    (added_far c.args.steps.now.items c.args.far.now.items _ _ c.args.last c.step_to-step.result c.args.number
    c.requires.packed c.push_reserved.ensures.items (omega (arith, c.if-step-eq0.true))
    c.push_reserved-then-step-eq0.ensures.items).1

pub returns-else-step-eq0-clause-packed : goal.returns-else-step-eq0-clause-packed
returns-else-step-eq0-clause-packed c =
    let some : 0 < c.step_to-step.result = omega (arith, c.if-step-eq0.false) in
    (added_near c.args.steps.now.items _ c.args.far.now.items c.args.last c.step_to-step.result c.args.number
    c.requires.packed c.push_reserved.ensures.items some (c.step_to-step.ensures.step some) c.ranges.number.fits).0

pub returns-else-step-eq0-clause-numbers : goal.returns-else-step-eq0-clause-numbers
returns-else-step-eq0-clause-numbers c =
    let some : 0 < c.step_to-step.result = omega (arith, c.if-step-eq0.false) in
    (added_near c.args.steps.now.items _ c.args.far.now.items c.args.last c.step_to-step.result c.args.number
    c.requires.packed c.push_reserved.ensures.items some (c.step_to-step.ensures.step some) c.ranges.number.fits).1
