use Rattle.std.proofs.Common.{◌-◌, ◌+◌, arith, drop, take}
use Rattle.std.proofs.lemmas.Bool.{false≢true}
use Rattle.shared_book.proofs.ShortLemmas.{list_more}
use Rattle.shared_book.proofs.short_lists.misplaced_in_next.Goals as goal

pub loop-preserved : goal.loop-preserved
loop-preserved c =
    list_more c.args.last (take c.args.size c.args.left.now) (drop c.args.size c.args.left.now) c.loop.before
    (c.args.size - c.loop.counter) (c.args.size - (c.loop.counter + 1)) c.in-Some.number c.loop.left c.next.new.self
    c.loop.invariant (omega (arith, c.loop-test.true)) c.in-Some.ensures (omega (arith, c.if-number-last.false))
    (λ le. absurd (false≢true (c.if-is_fall.ensures.1 le)))
