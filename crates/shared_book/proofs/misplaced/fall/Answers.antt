use Rattle.std.proofs.Common.{◌++◌, ℕ, List, ap, refl, arith}
use Rattle.std.proofs.lemmas.Bool.{false≢true}
use Rattle.shared_book.proofs.FallLemmas.{numbers_left, walk_falls, walk_more}
use Rattle.shared_book.specs.Receipts.{numbers}
use Rattle.shared_book.specs.Inner.Seat.{line_of}
use Rattle.shared_book.proofs.misplaced.fall.Goals as goal

pub loop-number-preserved : goal.loop-number-preserved
loop-number-preserved c =
    let held : List ℕ = numbers c.args.list.now.held.items in
    walk_more (line_of c.args.list.now) c.loop-number.before (c.loop-number.left ++ held) (c.next.new.self ++ held)
    c.in-Some.number c.loop-number.invariant (ap (λ (ns : List ℕ). ns ++ held) c.in-Some.ensures)
    (λ le. absurd (false≢true (c.if-is_fall.ensures.1 le)))

pub returns-then-is_fall-2 : goal.returns-then-is_fall-2
returns-then-is_fall-2 c =
    walk_falls (line_of c.args.list.now) c.loop-receipt.before _ _ _ c.loop-receipt.invariant
    (numbers_left c.deref-receipt-items.result.now _ c.loop-receipt.receipt-index c.receipt-item.result
    c.deref-receipt-items.ensures.value c.receipt-item.is (omega arith)) (c.if-is_fall-2.ensures.0 refl)

pub loop-receipt-preserved : goal.loop-receipt-preserved
loop-receipt-preserved c =
    walk_more (line_of c.args.list.now) c.loop-receipt.before _ _ _ c.loop-receipt.invariant
    (numbers_left c.deref-receipt-items.result.now _ c.loop-receipt.receipt-index c.receipt-item.result
    c.deref-receipt-items.ensures.value c.receipt-item.is (omega arith)) (λ le. absurd (false≢true (c.if-is_fall-2.ensures.1 le)))
