use Rattle.std.proofs.Common.{◌+◌, arith}
use Rattle.shared_book.proofs.CountLemmas.{too_low, too_high, numbers_more}
use Rattle.shared_book.proofs.counted.miscounted.Goals as goal

pub returns-then-number-due : goal.returns-then-number-due
returns-then-number-due c =
    too_low c.args.start c.args.numbers.now c.loop-i.i 0 (omega arith) c.requires.sorted c.loop-i.invariant
    c.if-number-due.true

pub returns-then-number-due-2 : goal.returns-then-number-due-2
returns-then-number-due-2 c =
    too_high c.args.start c.args.numbers.now c.loop-i.i 0 (omega arith) c.requires.sorted c.loop-i.invariant
    c.if-number-due-2.true

pub loop-i-preserved : goal.loop-i-preserved
loop-i-preserved c =
    numbers_more (c.args.start + 1) c.args.numbers.now c.loop-i.i 0 (omega arith) c.loop-i.invariant
    (omega (arith, c.if-number-due.false, c.if-number-due-2.false))
