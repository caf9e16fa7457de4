use Rattle.std.proofs.Common.{List, All, arith, subst}
use Rattle.std.specs.Prelude.{Any}
use Rattle.shared_book.proofs.ReceiptLemmas.{all_flat_more, any_flat, all_taken}
use Rattle.shared_book.specs.Held.{Held, lists, all_lists}
use Rattle.shared_book.specs.Inner.Misplaced.{IsMisplaced, IsWellPlaced}
use Rattle.shared_book.proofs.misplaced.misplaced.Goals as goal

pub returns-in-Some : goal.returns-in-Some
returns-in-Some g c =
    any_flat (IsMisplaced c.args.last c.in-Some.number) lists c.args.seats.now c.loop-seat.seat-index
    c.seat-item.result (omega arith)
    (subst (λ (s : Held). Any (IsMisplaced c.args.last c.in-Some.number) (lists s)) c.seat-item.is c.in-Some.ensures)

pub loop-seat-preserved : goal.loop-seat-preserved
loop-seat-preserved g c =
    all_flat_more (IsWellPlaced c.args.last) lists c.args.seats.now c.loop-seat.seat-index c.seat-item.result
    (omega arith) c.loop-seat.invariant
    (subst (λ (s : Held). All (IsWellPlaced c.args.last) (lists s)) c.seat-item.is c.in_default.ensures)

pub returns : goal.returns
returns g c =
    all_taken (λ (s : List Held). All (IsWellPlaced c.args.last) (all_lists s)) c.args.seats.now
    c.loop-seat.seat-index (omega arith) c.loop-seat.invariant
